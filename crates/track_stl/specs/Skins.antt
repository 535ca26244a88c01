-- The skin in either order, its file, and what listing it again leaves.
use Rattle.std.specs.Prelude.{◌≡◌, refl, Bool, true, ℕ, ◌*◌, ◌≤◌, ◌<◌, length, get_or}
use Rattle.std.proofs.Common.{sym, ap, ◌∙◌, subst, le_refl, arith}
use Rattle.std.proofs.Math.Option.{some}
use mathlib.Core.List.{List, ◌++◌, flatten}
use Rattle.rules.specs.Below.{gather}
use Rattle.rules.specs.Words.{bytes_of}
use Rattle.rules.specs.Skin.{skin_as}
use Rattle.rules.specs.Points.{point_in}
use Rattle.rules.specs.Outward.{triangle_as}
use Rattle.rules.specs.Proposals.{inside_in}
use Rattle.rules.specs.Job.{written}
use Rattle.rules.specs.Stl.{header, most_facets, file_of, corners_of}
use Rattle.rules.specs.Laws.Lists.{Among, among_at, flatten_in}
use Rattle.rules.specs.Laws.Written.{written_length, written_at, written_over}
use Rattle.rules.specs.Reading.Skin.{inside_reads}
use Rattle.rules.specs.Reading.Room.{skin_same_length, skin_listed, skin_words, skin_fits, holds_triangle}
use Rattle.rules.specs.Reading.Outward.{three_each}
use Rattle.rules.proofs.Reading.Outward.{listed_ids}
use Rattle.table.specs.Rows.{table_in, rows_in}
use Rattle.table.specs.Ground.{Ground}
use Rattle.track_stl.specs.Corners.{triangle_facet, Below, triangles_file}

-- by the bytes of rows, marks and points
abbrev pub listed_as : Bool → List ℕ → List ℕ → List ℕ → List (List ℕ)
listed_as outward rows marks points = skin_as (table_in rows) (inside_in marks) (triangle_as (table_in rows) outward (some (point_in points)))

module _ (rows marks points work : List ℕ) (ids : ℕ) (ground : Ground rows work ids) where
  abbrev skin : Bool → List (List ℕ)
  skin outward = listed_as outward rows marks points

  three : (outward : Bool) (r c : ℕ) → c < 4 → length (triangle_as (table_in rows) outward (some (point_in points)) r c) ≡ 3
  three outward = three_each (table_in rows) outward (some (point_in points)) refl

  -- three words for each triangle, at most 6N in all, and as many triangles in either order
  pub skin_long : (outward : Bool) → length (flatten (skin outward)) ≡ 3 * length (skin outward)
  skin_long outward = skin_words (table_in rows) (inside_in marks) (triangle_as (table_in rows) outward (some (point_in points))) (three outward)

  pub skin_few : (outward : Bool) → length (flatten (skin outward)) ≤ 6 * rows_in rows
  skin_few outward = skin_fits (table_in rows) (inside_in marks) (triangle_as (table_in rows) outward (some (point_in points))) (three outward) ground.paired refl

  pub either_long : (one other : Bool) → length (flatten (skin one)) ≡ length (flatten (skin other))
  either_long one other =
      let t = table_in rows in
      skin_long one
      ∙ ap (λ (n : ℕ). 3 * n) (skin_same_length t (inside_in marks) (triangle_as t one (some (point_in points))) ∙ sym (skin_same_length t (inside_in marks) (triangle_as t other (some (point_in points)))))
      ∙ sym (skin_long other)

  -- each listed id is below V
  pub ids_below : (outward : Bool) (i : ℕ) → i < length (flatten (skin outward)) → get_or (flatten (skin outward)) i 0 < ids
  ids_below outward i l =
      let t = table_in rows in
      let u = get_or (flatten (skin outward)) i 0 in
      let (x, listed, held) = flatten_in u (skin outward) (among_at (flatten (skin outward)) i l) in
      let y = (skin_listed t (inside_in marks) (triangle_as t outward (some (point_in points))) (inside_reads marks) x).0 listed in
      let (k, lk, _, e) = holds_triangle t refl y.row y.corner u
      (listed_ids t outward (some (point_in points)) refl y.row y.corner y.corner_below u (subst (Among u) y.ids_are held)) in
      subst (λ (v : ℕ). v < ids) e (ground.paired.below y.row y.row_below k lk)

  -- ---- in a lent buffer

  module _ (triangles : List ℕ) (room : 6 * rows_in rows ≤ length triangles) where
    fits : (outward : Bool) → length (flatten (skin outward)) ≤ length triangles
    fits outward = omega (arith, skin_few outward)

    pub still_long : (outward : Bool) → length (written (flatten (skin outward)) triangles) ≡ length triangles
    still_long outward = written_length (flatten (skin outward)) triangles (fits outward)

    pub front_at : (outward : Bool) (i : ℕ) → i < 3 * length (skin outward) → get_or (written (flatten (skin outward)) triangles) i 0 ≡ get_or (flatten (skin outward)) i 0
    front_at outward i l = written_at (flatten (skin outward)) triangles i (omega (arith, skin_long outward))

    pub front_below : (outward : Bool) → Below (written (flatten (skin outward)) triangles) (3 * length (skin outward)) ids
    front_below outward i l = rw (front_at outward i l) (ids_below outward i (omega (arith, skin_long outward)))

    -- listed one way over the other way over the one: as before
    pub listed_again : (one other : Bool) → triangles ≡ written (flatten (skin one)) triangles → written (flatten (skin one)) (written (flatten (skin other)) triangles) ≡ triangles
    listed_again one other e = written_over (flatten (skin one)) (flatten (skin other)) triangles (rw (either_long other one) (le_refl (length (flatten (skin one))))) ∙ sym e

    -- ---- written, once it is listed outward

    module _ {count : ℕ} (counted : count ≡ length (skin true)) {listed : List ℕ} (is : listed ≡ written (flatten (skin true)) triangles) where
      pub may_put : (3 * count ≤ length listed) × Below listed (3 * count) ids × (count ≤ most_facets)
      may_put = rw (is, counted) (
        omega (arith, still_long true, fits true, skin_long true),
        front_below true,
        omega (arith, skin_few true, skin_long true, ground.few),
      )

      pub file_put : (file : List ℕ) {after : List ℕ} → after ≡ written (header ++ (bytes_of 4 count ++ gather count (triangle_facet (point_in points) listed))) file
          → after ≡ written (file_of (corners_of (point_in points) (skin true))) file
      file_put file e =
          e ∙ ap (λ (bytes : List ℕ). written bytes file)
          (triangles_file (point_in points) (skin true) count (rw counted (skin_long true)) listed (λ i l. ap (λ (xs : List ℕ). get_or xs i 0) is ∙ front_at true i (rw (← counted) l)))
