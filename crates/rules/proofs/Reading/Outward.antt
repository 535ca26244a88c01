-- The ids of a triangle as it is listed are those of its triangle.
use Rattle.std.specs.Prelude.{◌≡◌, Bool, ℕ, ◌<◌}
use Rattle.std.proofs.Common.{subst}
use Rattle.std.proofs.Math.Logic.{⊎_elim}
use Rattle.std.proofs.Math.Option.{Option}
use Rattle.rules.specs.Table.{Table}
use Rattle.rules.specs.Skin.{triangle}
use Rattle.rules.specs.Points.{Point}
use Rattle.rules.specs.Outward.{triangle_as}
use Rattle.rules.specs.Laws.Lists.{Among}
use Rattle.rules.specs.Reading.Outward.{exchanged_ids, either_way, three}

-- ---- a triangle as it is listed

module _ (t : Table) (outward : Bool) (points : Option (ℕ → Point)) where
  module _ (four : t.corners ≡ 4) where
    pub listed_ids : (r c : ℕ) → c < t.corners → (u : ℕ) → Among u (triangle_as t outward points r c) → Among u (triangle t r c)
    listed_ids r c l u m =
        ⊎_elim (λ e. subst (Among u) e m) (λ e. exchanged_ids (triangle t r c) (three t outward points four r c l) u (subst (Among u) e m)) (either_way t outward points r c)
