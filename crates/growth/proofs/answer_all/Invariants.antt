use Rattle.growth.specs.Answers.{Answered}
use Rattle.table.specs.Rows.{table_in}
use Rattle.growth.proofs.answer_all.Given as goal

abbrev pub invariant-loop-k : goal.invariant-loop-k
invariant-loop-k l = Answered (table_in l.rows) l.ids l.proposals l.initial.marks l.initial.answers l.k l.taken l.answers l.marks l.work
