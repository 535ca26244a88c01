use Rattle.rules.specs.Laws.Copied.{Copied}
use Rattle.track.proofs.grown.copy.Given as goal

abbrev pub invariant-loop-i : goal.invariant-loop-i
invariant-loop-i l = Copied l.from l.to l.initial.to l.i
