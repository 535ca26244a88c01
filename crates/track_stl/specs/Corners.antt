-- Corners at the points of ids, and facets of triangles.
use Rattle.std.specs.Prelude.{◌≡◌, true, ◌&&◌, ℤ, pos, get_or}
use Rattle.std.proofs.Math.Path.{refl, ap}
use Rattle.std.proofs.Common.{sym, ◌∙◌, not-suc-le-zero, le_of_suc-le-suc}
use mathlib.Core.List.{List, [], ◌∷◌, ◌++◌, map, flatten, append_assoc, append-nil}
use Prim.Native.Nat.{ℕ, zero, suc, ◌+◌, ◌*◌, ◌/◌, ◌≤◌, ◌<◌}
use native.Mathlib.Omega.{arith}
use Rattle.std.proofs.Math.ListN.{length, length-append, get_or-append}
use Rattle.std.proofs.Math.Seq.{get_or-append-add}
use Rattle.rules.specs.Below.{gather}
use Rattle.rules.specs.Words.{bytes_of}
use Rattle.rules.specs.Points.{Point, point_in, in_range, on_grid}
use Rattle.rules.specs.Stl.{header, facet_bytes, facets_of, file_of, coordinates, corners_of}
use Rattle.rules.specs.Laws.Truth.{and_first, and_second}
use Rattle.rules.specs.Laws.Lists.{gather_same}
use Rattle.points.specs.Grid.{Grid}
use Rattle.stl.specs.declared.corner.Corner.{Corner}
use Rattle.stl.specs.Corners.{corner, Numbers, corner_in, facet_of, facet_corners, facet_of_length, grid_numbers}

-- the corner at a point
unfoldable pub point_corner : Point → Corner
point_corner p = corner p.x p.y p.z

-- the corner at the point of id i of a list, and the facet of triangle k
unfoldable pub id_corner : (ℕ → Point) → List ℕ → ℕ → Corner
id_corner at ids i = point_corner (at (get_or ids i 0))

unfoldable pub triangle_facet : (ℕ → Point) → List ℕ → ℕ → List ℕ
triangle_facet at ids k = facet_of (id_corner at ids (3 * k)) (id_corner at ids (3 * k + 1)) (id_corner at ids (3 * k + 2))

pub triangle_fifty : (at : ℕ → Point) (ids : List ℕ) (k : ℕ) → length (triangle_facet at ids k) ≡ 50
unfolding triangle_facet
triangle_fifty at ids k = facet_of_length (id_corner at ids (3 * k)) (id_corner at ids (3 * k + 1)) (id_corner at ids (3 * k + 2))

-- the first n ids of a list are below V
abbrev pub Below : List ℕ → ℕ → ℕ → Type 0
Below ids n most = (i : ℕ) → i < n → get_or ids i 0 < most

-- ---- points in range

pub each_in_range : (p : Point) → on_grid p ≡ true → (in_range p.x ≡ true) × (in_range p.y ≡ true) × (in_range p.z ≡ true)
unfolding on_grid
each_in_range p on =
    let xy = and_first (in_range p.x && in_range p.y) (in_range p.z) on in
    (and_first (in_range p.x) (in_range p.y) xy, and_second (in_range p.x) (in_range p.y) xy, and_second (in_range p.x && in_range p.y) (in_range p.z) on)

-- their corners are no NaNs
pub id_numbers : {points : List ℕ} {most : ℕ} → Grid points most → (ids : List ℕ) (i : ℕ) → get_or ids i 0 < most → Numbers (id_corner (point_in points) ids i)
unfolding id_corner point_corner
id_numbers {points} grid ids i l =
    let p = point_in points (get_or ids i 0) in
    let (x, y, z) = each_in_range p (grid.on (get_or ids i 0) l) in
    grid_numbers p.x p.y p.z x y z

-- ---- the units of triangles, one by one

module _ (at : ℕ → Point) where
  abbrev of : ℕ → List ℤ
  of v = coordinates (at v)

  -- three for each id
  pub three_units : (ids : List ℕ) → length (flatten (map of ids)) ≡ 3 * length ids
  unfolding flatten coordinates
  three_units [] = refl
  three_units (v ∷ ids) = length-append (of v) (flatten (map of ids)) ∙ omega (arith, three_units ids)

  -- coordinate c of id i, whatever stands behind them, and nothing
  pub unit_before : (ids : List ℕ) (rest : List ℤ) (i c : ℕ) → i < length ids → c < 3 → get_or (flatten (map of ids) ++ rest) (3 * i + c) (pos 0) ≡ get_or (of (get_or ids i 0)) c (pos 0)
  unfolding flatten coordinates
  unit_before [] rest i c l m = absurd (not-suc-le-zero l)
  unit_before (v ∷ ids) rest zero c l m =
      let first : 3 * 0 + c ≡ c = omega arith in
      rw (append_assoc (of v) (flatten (map of ids)) rest, first) (get_or-append (of v) (flatten (map of ids) ++ rest) (pos 0) c m)
  unit_before (v ∷ ids) rest (suc i) c l m =
      let later : 3 * suc i + c ≡ length (of v) + (3 * i + c) = omega arith in
      rw (append_assoc (of v) (flatten (map of ids)) rest, later, get_or-append-add (of v) (flatten (map of ids) ++ rest) (3 * i + c) (pos 0))
      (unit_before ids rest i c (le_of_suc-le-suc l) m)

  pub unit_at_lem : (ids : List ℕ) (i c : ℕ) → i < length ids → c < 3 → get_or (flatten (map of ids)) (3 * i + c) (pos 0) ≡ get_or (of (get_or ids i 0)) c (pos 0)
  unit_at_lem ids i c l m = ap (λ (units : List ℤ). get_or units (3 * i + c) (pos 0)) (sym (append-nil (flatten (map of ids)))) ∙ unit_before ids [] i c l m

  -- three units from 3 i on are the corner at the point of id i
  corner_units : (ids : List ℕ) (i : ℕ) → i < length ids → (from : ℕ) → from ≡ 3 * i → corner_in (flatten (map of ids)) from ≡ id_corner at ids i
  unfolding corner_in id_corner point_corner coordinates
  corner_units ids i l from e =
      let zeroth : from ≡ 3 * i + 0 = omega arith in
      let first : from + 1 ≡ 3 * i + 1 = omega arith in
      let second : from + 2 ≡ 3 * i + 2 = omega arith in
      rw (first, second, zeroth, unit_at_lem ids i 0 l (omega arith), unit_at_lem ids i 1 l (omega arith), unit_at_lem ids i 2 l (omega arith))

  facet_units : (ids : List ℕ) (k : ℕ) → 3 * k + 3 ≤ length ids → facet_bytes (flatten (map of ids)) (9 * k) ≡ triangle_facet at ids k
  unfolding triangle_facet
  facet_units ids k l =
      facet_corners (flatten (map of ids)) (9 * k)
      ∙ rw (
        corner_units ids (3 * k) (omega arith) (9 * k) (omega arith),
        corner_units ids (3 * k + 1) (omega arith) (9 * k + 3) (omega arith),
        corner_units ids (3 * k + 2) (omega arith) (9 * k + 6) (omega arith),
      )

  -- the file of triangles, by the facets of their ids, which stand at the front of a longer list
  pub triangles_file : (triangles : List (List ℕ)) (n : ℕ) → length (flatten triangles) ≡ 3 * n → (words : List ℕ)
      → ((i : ℕ) → i < 3 * n → get_or words i 0 ≡ get_or (flatten triangles) i 0)
      → header ++ (bytes_of 4 n ++ gather n (triangle_facet at words)) ≡ file_of (corners_of at triangles)
  unfolding file_of facets_of corners_of triangle_facet id_corner
  triangles_file triangles n long words same =
      let ids = flatten triangles in
      let units = flatten (map of ids) in
      let count : length units / 9 ≡ n = omega (arith, three_units ids) in
      ap (λ (x : List ℕ). header ++ (bytes_of 4 n ++ x))
      (gather_same n (triangle_facet at words) (λ k. facet_bytes units (9 * k)) (λ k l.
      rw (same (3 * k) (omega arith), same (3 * k + 1) (omega arith), same (3 * k + 2) (omega arith)) (sym (facet_units ids k (omega arith)))))
      ∙ rw count
