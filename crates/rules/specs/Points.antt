-- Points, in whole units of a sixteenth of a metre, and what is asked of them. Nothing here is rounded.
use Rattle.std.specs.Prelude.{ℕ, ◌+◌, ◌*◌, Bool, cond, not, ◌&&◌, ◌||◌, List, ltb, ℤ, pos, neg_ℤ, ◌+ℤ◌, ◌-ℤ◌, ◌*ℤ◌}
use Rattle.std.specs.Int.Signed.{lt_z, le_z}
use Rattle.rules.specs.Words.{word}

pub record Point : Type 0 where
  pub x : ℤ
  pub y : ℤ
  pub z : ℤ

-- ---- points in bytes

-- what an i16 stands for, by its sixteen bits
unfoldable pub signed : ℕ → ℤ
signed w = cond (ltb w 32768) (pos w) (pos w -ℤ pos 65536)

-- the i16 at a place of the bytes, low byte first
unfoldable pub coordinate : List ℕ → ℕ → ℤ
coordinate bytes place = signed (word 2 bytes place)

-- the point of id v: three i16
unfoldable pub point_in : List ℕ → ℕ → Point
point_in bytes v = record { x = coordinate bytes (6 * v); y = coordinate bytes (6 * v + 2); z = coordinate bytes (6 * v + 4) }

-- ---- the range of a coordinate

-- how far from zero a coordinate may lie
abbrev pub grid_most : ℕ
grid_most = 1023

-- from -1023 to 1023
unfoldable pub in_range : ℤ → Bool
in_range z = le_z (neg_ℤ (pos grid_most)) z && le_z z (pos grid_most)

unfoldable pub on_grid : Point → Bool
on_grid p = in_range p.x && in_range p.y && in_range p.z

-- ---- signs

unfoldable pub below_zero : ℤ → Bool
below_zero z = lt_z z (pos 0)

unfoldable pub above_zero : ℤ → Bool
above_zero z = lt_z (pos 0) z

unfoldable pub is_zero : ℤ → Bool
is_zero z = not (below_zero z) && not (above_zero z)

-- both below zero, or both above it
unfoldable pub same_sign : ℤ → ℤ → Bool
same_sign m n = below_zero m && below_zero n || above_zero m && above_zero n

-- three zeros
unfoldable pub at_origin : Point → Bool
at_origin p = is_zero p.x && is_zero p.y && is_zero p.z

-- ---- the product (b - a) x (c - a) . (d - a)

-- b - a
unfoldable pub from : Point → Point → Point
from b a = record { x = b.x -ℤ a.x; y = b.y -ℤ a.y; z = b.z -ℤ a.z }

-- u x v . w
unfoldable pub triple : Point → Point → Point → ℤ
triple u v w =
    (u.y *ℤ v.z -ℤ u.z *ℤ v.y) *ℤ w.x +ℤ (u.z *ℤ v.x -ℤ u.x *ℤ v.z) *ℤ w.y +ℤ (u.x *ℤ v.y -ℤ u.y *ℤ v.x) *ℤ w.z

unfoldable pub volume : Point → Point → Point → Point → ℤ
volume a b c d = triple (from b a) (from c a) (from d a)
