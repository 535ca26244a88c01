use Rattle.std.proofs.Common.{◌≡◌}
use Rattle.lines.specs.Lines.{NumberTurns}
use Rattle.lines.proofs.text.Page.put_numbers.Given as goal

abbrev pub invariant-loop-n : goal.invariant-loop-n
invariant-loop-n l =
    (l.self.out.ghost_name ≡ l.initial.self.out.ghost_name)
    × NumberTurns l.numbers l.initial.self.out.now l.initial.self.at l.self.out.now l.self.at l.n-index
