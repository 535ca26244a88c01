-- Laws of corner tallies.
use Rattle.std.specs.Prelude.{◌≡◌, ◌≢◌, Bool, true, false, not, ◌&&◌, ℕ, ◌+◌, ◌≤◌, ◌<◌, eqb}
use Rattle.std.proofs.Common.{◌∙◌, arith}
use Rattle.rules.specs.Below.{any, bit}
use Rattle.rules.specs.Table.{Table, holds}
use Rattle.rules.specs.Work.{tally, every_row}
use Rattle.rules.specs.Laws.Count.{count_none, count_with, count_sides, count_not}

module _ (t : Table) where
  module _ (p : ℕ → Bool) (v : ℕ) where
    -- no row that passes holds v
    pub tally_none : eqb (tally t p v) 0 ≡ not (any t.rows (λ r. p r && holds t r v))
    unfolding tally
    tally_none = count_none t.rows (λ r. p r && holds t r v)

    pub tally_few : tally t p v ≤ t.rows
    unfolding tally
    tally_few = omega (arith, count_not t.rows (λ r. p r && holds t r v))

    -- one side and the other
    pub tally_sides : tally t p v + tally t (λ r. not (p r)) v ≡ tally t every_row v
    unfolding tally
    tally_sides = count_sides t.rows p (λ r. holds t r v)

  -- one row more
  pub tally_with : (p q : ℕ → Bool) (r v : ℕ) → r < t.rows → p r ≡ false → q r ≡ true → ((s : ℕ) → s ≢ r → q s ≡ p s) → tally t q v ≡ tally t p v + bit (holds t r v)
  unfolding tally
  tally_with p q r v l off on same =
      count_with t.rows (λ s. p s && holds t s v) (λ s. q s && holds t s v) r l (rw off) (λ s _ ne. rw (same s ne)) ∙ rw on
