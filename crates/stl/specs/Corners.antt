-- Corners: three f32, in bytes and in a list of units.
use Rattle.std.specs.Prelude.{◌≡◌, refl, true, not, List, ◌++◌, ℕ, ◌+◌, T, ℤ, pos, nat_abs, length, get_or, replicate, Float, from_bits}
use Rattle.std.proofs.Common.{◌∙◌, add-zero, add_assoc, arith}
use Rattle.std.proofs.lemmas.List.Edits.{sets}
use Rattle.std.specs.Float.{binary32}
use Rattle.std.specs.Float.Ieee.{to_bits, is_nan}
use Rattle.rules.specs.Below.{gather}
use Rattle.rules.specs.Words.{word, bytes_of}
use Rattle.rules.specs.Points.{below_zero, in_range}
use Rattle.rules.specs.Stl.{metres, bits_of, facet_bytes}
use Rattle.rules.specs.Laws.Words.{bytes_length}
use Rattle.rules.specs.Laws.Written.{sets_more}
use Rattle.grid.specs.Exact.{exact}
use Rattle.grid.specs.Steps.{finite_number}
use Rattle.stl.specs.declared.corner.Corner.{Corner}

-- the corner at a grid point
unfoldable pub corner : ℤ → ℤ → ℤ → Corner
corner x y z = record { x = metres x; y = metres y; z = metres z }

-- none of its three is a NaN
abbrev pub Numbers : Corner → Type 0
Numbers c = T (not (is_nan c.x)) × T (not (is_nan c.y)) × T (not (is_nan c.z))

-- ---- in bytes

unfoldable pub corner_bytes : Corner → List ℕ
corner_bytes c = bytes_of 4 (to_bits binary32 c.x) ++ (bytes_of 4 (to_bits binary32 c.y) ++ bytes_of 4 (to_bits binary32 c.z))

unfoldable pub corners_bytes : Corner → Corner → Corner → List ℕ
corners_bytes a b c = corner_bytes a ++ (corner_bytes b ++ corner_bytes c)

-- a facet with these corners
unfoldable pub facet_of : Corner → Corner → Corner → List ℕ
facet_of a b c = replicate 12 0 ++ (corners_bytes a b c ++ replicate 2 0)

-- the corner at a place
unfoldable pub float_at : List ℕ → ℕ → Float
float_at bytes place = from_bits binary32 (word 4 bytes place)

unfoldable pub corner_at : List ℕ → ℕ → Corner
corner_at bytes place = record { x = float_at bytes place; y = float_at bytes (place + 4); z = float_at bytes (place + 8) }

-- ---- in a list of units

-- the corner that three units make, from a place of the list on
unfoldable pub corner_in : List ℤ → ℕ → Corner
corner_in units from = corner (get_or units from (pos 0)) (get_or units (from + 1) (pos 0)) (get_or units (from + 2) (pos 0))

-- a facet has the corners of its nine units
pub facet_corners : (units : List ℤ) (from : ℕ) → facet_bytes units from ≡ facet_of (corner_in units from) (corner_in units (from + 3)) (corner_in units (from + 6))
unfolding facet_bytes facet_of corners_bytes corner_bytes corner_in corner bits_of gather
facet_corners units from = rw (add-zero from, add_assoc from 3 1, add_assoc from 3 2, add_assoc from 6 1, add_assoc from 6 2)

-- ---- lengths

pub corner_length : (c : Corner) → length (corner_bytes c) ≡ 12
unfolding corner_bytes
corner_length c = refl

pub corners_length : (a b c : Corner) → length (corners_bytes a b c) ≡ 36
unfolding corners_bytes corner_bytes
corners_length a b c = refl

pub facet_of_length : (a b c : Corner) → length (facet_of a b c) ≡ 50
unfolding facet_of corners_bytes corner_bytes
facet_of_length a b c = refl

-- ---- numbers of the grid are no NaNs

number : (u : ℤ) → in_range u ≡ true → T (not (is_nan (metres u)))
number u on = finite_number (metres u) (below_zero u) (nat_abs u) 16 (exact u on)

pub grid_numbers : (x y z : ℤ) → in_range x ≡ true → in_range y ≡ true → in_range z ≡ true → Numbers (corner x y z)
unfolding corner
grid_numbers x y z a b c = (number x a, number y b, number z c)

-- ---- one store after another

pub corner_put : (l : List ℕ) (p : ℕ) (c : Corner)
    → sets (sets (sets l p (bytes_of 4 (to_bits binary32 c.x))) (p + 4) (bytes_of 4 (to_bits binary32 c.y))) (p + 8) (bytes_of 4 (to_bits binary32 c.z)) ≡ sets l p (corner_bytes c)
unfolding corner_bytes
corner_put l p c =
    let x = bytes_of 4 (to_bits binary32 c.x) in
    let y = bytes_of 4 (to_bits binary32 c.y) in
    let z = bytes_of 4 (to_bits binary32 c.z) in
    sets_more y z (sets l p x) (p + 4) (p + 8) (omega (arith, bytes_length 4 (to_bits binary32 c.y)))
    ∙ sets_more x (y ++ z) l p (p + 4) (omega (arith, bytes_length 4 (to_bits binary32 c.x)))

pub corners_put : (l : List ℕ) (p : ℕ) (a b c : Corner)
    → sets (sets (sets l p (corner_bytes a)) (p + 12) (corner_bytes b)) (p + 24) (corner_bytes c) ≡ sets l p (corners_bytes a b c)
unfolding corners_bytes
corners_put l p a b c =
    sets_more (corner_bytes b) (corner_bytes c) (sets l p (corner_bytes a)) (p + 12) (p + 24) (omega (arith, corner_length b))
    ∙ sets_more (corner_bytes a) (corner_bytes b ++ corner_bytes c) l p (p + 12) (omega (arith, corner_length a))

pub facet_put : (l : List ℕ) (p : ℕ) (a b c : Corner)
    → sets (sets (sets l p (replicate 12 0)) (p + 12) (corners_bytes a b c)) (p + 48) (replicate 2 0) ≡ sets l p (facet_of a b c)
unfolding facet_of
facet_put l p a b c =
    sets_more (corners_bytes a b c) (replicate 2 0) (sets l p (replicate 12 0)) (p + 12) (p + 48) (omega (arith, corners_length a b c))
    ∙ sets_more (replicate 12 0) (corners_bytes a b c ++ replicate 2 0) l p (p + 12) refl
