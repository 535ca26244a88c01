-- The product at four points changes its sign when two that stand side by side change places.
use Rattle.std.specs.Prelude.{◌≡◌, refl, List, [], ◌∷◌, ℕ, zero, suc, ◌+◌, ◌*◌, ℤ, pos, neg_ℤ}
use Rattle.rules.specs.Points.{Point, from, triple, volume}
use Rattle.whole.specs.Norm.{Polynomial, var, add, sub, mul, neg, equal}

-- ---- the product as a polynomial

-- a point whose coordinates are polynomials
record Symbolic : Type 0 where
  x : Polynomial
  y : Polynomial
  z : Polynomial

-- the coordinates of some points, numbered one after the other
abbrev coordinates : List Point → ℕ → ℤ
coordinates [] n = pos 0
coordinates (p ∷ ps) zero = p.x
coordinates (p ∷ ps) (suc zero) = p.y
coordinates (p ∷ ps) (suc (suc zero)) = p.z
coordinates (p ∷ ps) (suc (suc (suc n))) = coordinates ps n

-- the point whose coordinates are numbered from n on
abbrev point_from : ℕ → Symbolic
point_from n = record { x = var n; y = var (n + 1); z = var (n + 2) }

-- b - a
abbrev less : Symbolic → Symbolic → Symbolic
less b a = record { x = sub b.x a.x; y = sub b.y a.y; z = sub b.z a.z }

-- u x v . w
abbrev triple_of : Symbolic → Symbolic → Symbolic → Polynomial
triple_of u v w =
    add (add (mul (sub (mul u.y v.z) (mul u.z v.y)) w.x) (mul (sub (mul u.z v.x) (mul u.x v.z)) w.y))
    (mul (sub (mul u.x v.y) (mul u.y v.x)) w.z)

-- the product at the points a, b, c and d of four, numbered from 0
abbrev volume_at : ℕ → ℕ → ℕ → ℕ → Polynomial
volume_at a b c d =
    triple_of (less (point_from (3 * b)) (point_from (3 * a))) (less (point_from (3 * c)) (point_from (3 * a))) (less (point_from (3 * d)) (point_from (3 * a)))

-- ---- the swaps

pub swap_ab : (a b c d : Point) → volume b a c d ≡ neg_ℤ (volume a b c d)
unfolding volume triple from
swap_ab a b c d = equal (coordinates (a ∷ b ∷ c ∷ d ∷ [])) (volume_at 1 0 2 3) (neg (volume_at 0 1 2 3)) refl

pub swap_bc : (a b c d : Point) → volume a c b d ≡ neg_ℤ (volume a b c d)
unfolding volume triple from
swap_bc a b c d = equal (coordinates (a ∷ b ∷ c ∷ d ∷ [])) (volume_at 0 2 1 3) (neg (volume_at 0 1 2 3)) refl

pub swap_cd : (a b c d : Point) → volume a b d c ≡ neg_ℤ (volume a b c d)
unfolding volume triple from
swap_cd a b c d = equal (coordinates (a ∷ b ∷ c ∷ d ∷ [])) (volume_at 0 1 3 2) (neg (volume_at 0 1 2 3)) refl
