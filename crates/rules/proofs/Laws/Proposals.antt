-- Laws of answering, one proposal more.
use Rattle.std.specs.Prelude.{◌≡◌}
use mathlib.Core.List.{List, [], ◌∷◌, ◌++◌}
use Prim.Native.Nat.{ℕ}
use Rattle.rules.specs.Table.{Table}
use Rattle.rules.specs.Proposals.{Proposal, answer, answers_to, final_marks}
use Rattle.rules.specs.Laws.Proposals.{answers_append}

module _ (t : Table) where
  pub answers_more : (marks : List ℕ) (ps : List Proposal) (p : Proposal) → answers_to t marks (ps ++ p ∷ []) ≡ answers_to t marks ps ++ answer t (final_marks t marks ps) p ∷ []
  unfolding answers_to
  answers_more marks ps p = answers_append t marks ps (p ∷ [])
