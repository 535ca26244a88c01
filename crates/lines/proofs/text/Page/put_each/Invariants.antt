use Rattle.std.proofs.Common.{ℕ, List, ◌*◌}
use Rattle.std.specs.Borrow.{MutBor}
use Rattle.rules.specs.Below.{gather}
use Rattle.lines.specs.declared.text.Page.{Page}
use Rattle.lines.specs.Page.{Puts, TakesFew}
use Rattle.lines.proofs.text.Page.put_each.Given as goal

abbrev pub invariant-loop-k : goal.invariant-loop-k
invariant-loop-k g l =
    TakesFew (l.size * l.k) l.initial.self l.self
    × ((text : ℕ → List ℕ) → ((k : ℕ) (p p' : MutBor Page) → goal.F-post g l.put k p tt p' → Puts (text k) p.now p'.now) → Puts (gather l.k text) l.initial.self l.self)
