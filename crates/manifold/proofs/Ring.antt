-- With none of a triangle's three edges before, it is the only ring afterwards.
use Rattle.std.specs.Prelude.{ℕ}
use Rattle.manifold.specs.Ring.{Edges, Ring, Empty, Corners, Flipped, other_way, flips_second, three_in}

-- so it is the only one: with all three edges in S', nothing was in S
pub none_in_empty : {T : ℕ → Type 0} {x y z : ℕ} → Corners T x y z → {S S' : Edges} → Flipped T S S'
    → (S x y → ⊥) → (S y z → ⊥) → (S z x → ⊥) → Ring S' → Empty S
none_in_empty {T} {x} {y} {z} c f nxy nyz nzx ring' =
    three_in c (other_way f) (flips_second (f.between x y c.first c.second c.xy) nxy)
    (flips_second (f.between y z c.second c.third c.yz) nyz) (flips_second (f.between z x c.third c.first c.zx) nzx) ring'
