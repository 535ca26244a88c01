-- The triangles of a row, found by like places: the triangle rule and the row across.
use Rattle.std.specs.Prelude.{◌≡◌, refl, Option, None, ◌≢◌, Bool, true, ◌&&◌, ℕ, ◌+◌, ◌*◌, ◌/◌, ◌%◌, ◌≤◌, ◌<◌, length, set}
use Rattle.std.proofs.Math.Path.{sym, ap}
use Rattle.std.proofs.Common.{◌∙◌, not-suc-le-zero, le_antisymm, zero-add, mod-lt, arith, lit<, length-set, eq-eqb, ne_eqb}
use mathlib.Core.List.{List, map, flatten}
use Rattle.std.proofs.Math.Option.{some, none}
use Rattle.std.proofs.Math.Bool.{not, and-true}
use Rattle.std.proofs.Math.Nat.{div-add-mod}
use Rattle.std.proofs.Math.Dec.{eqb}
use Rattle.std.proofs.lemmas.Bool.{eqb-false, not-true}
use Rattle.rules.specs.Below.{lowest, all, all_but, count, gather, tabulate}
use Rattle.rules.specs.Table.{Table, holds, side, across, neighbour_list, triangles_shared}
use Rattle.rules.specs.Job.{written}
use Rattle.rules.specs.Laws.Written.{written_none, written_more}
use Rattle.rules.specs.Laws.Truth.{and_first, and_second, and_both}
use Rattle.rules.specs.Laws.Below.{below_suc, all_same, searched_more, search_stops, search_ends}
use Rattle.rules.specs.Laws.Count.{TheOther, count_same, count_other}
use Rattle.rules.specs.Reading.Rows.{Rising}
use Rattle.rules.specs.Reading.Neighbours.{side_reads}
use Rattle.rules.specs.Reading.Closed.{across_other}
use Rattle.table.specs.declared.faces.Face.{Face}
use Rattle.table.specs.Faces.{triangles, face_corners, corner_of, face_of, holds_ids}
use Rattle.rules.specs.Laws.Highest.{highest, highest_is}
use Rattle.table.specs.Walk.{another}
use Rattle.rules.specs.Laws.Places.{row_below, place_below}
use Rattle.table.specs.Places.{face_at, like, like_self, broken_row, broken_none, face_at_lem, like_holds, holds_like, one_like, like_count}
use Rattle.rules.specs.Shape.{vertices as vertex_table, triangle_table, edge_table}

-- what code 7 looks for
abbrev pub unshared : Table → ℕ → Bool
unshared t r = not (triangles_shared t r)

-- Once code 7 was looked for: where no row breaks the rule, the list stands at the front.
pub record Written (t : Table) (broken : Option ℕ) (work₀ work : List ℕ) : Type 0 where
  pub kept : length work ≡ length work₀
  pub list : broken ≡ None → work ≡ written (neighbour_list t) work₀

-- ---- place by place

module _ (t : Table) where
  abbrev fine : ℕ → Bool
  fine p = eqb (count (4 * t.rows) (like t 0 4 p)) 2

  abbrev pub unshared_at : ℕ → Bool
  unshared_at p = not (fine p)

  abbrev pub across_at : ℕ → ℕ
  across_at p = across t (p / 4) (p % 4)

  -- the list is written up to a place, and no triangle before it is unshared
  pub record Listed (place : ℕ) (work work₀ : List ℕ) : Type 0 where
    pub upto : place ≤ 4 * t.rows
    pub kept : length work ≡ length work₀
    pub shared : lowest place unshared_at ≡ none
    pub front : work ≡ written (tabulate place across_at) work₀

  pub list_begins : (work : List ℕ) → Listed 0 work work
  unfolding lowest tabulate gather
  list_begins work = record { upto = omega arith; kept = refl; shared = refl; front = written_none work }

-- every corner but c is the triangle that leaves out c
but_one : (h : ℕ → Bool) (c : ℕ) → c < 4 → all_but 4 h c ≡ (h (corner_of c 0) && h (corner_of c 1) && h (corner_of c 2))
unfolding all_but all corner_of face_corners triangle_table edge_table vertex_table tabulate gather map flatten
but_one h =
    below_suc P 3 (below_suc P 2 (below_suc P 1 (below_suc P 0 (λ c l. absurd (not-suc-le-zero l)) refl)
    (ap (λ (b : Bool). b && h 2 && h 3) (and-true (h 0)))) (ap (λ (b : Bool). b && h 3) (and-true (h 0 && h 1)))) (and-true (h 0 && h 1 && h 2))
  where
    P : ℕ → Type 0
    P c = all_but 4 h c ≡ (h (corner_of c 0) && h (corner_of c 1) && h (corner_of c 2))

module _ (t : Table) (four : t.corners ≡ 4) where
  -- a row holds a triangle's ids exactly if it is a side of it
  side_ids : (r c s : ℕ) → c < 4 → holds_ids t (face_of t r (0 + c)) s ≡ side t r c s
  unfolding holds_ids face_of side
  side_ids r c s l = rw (zero-add c) (sym (ap (λ (n : ℕ). all_but n (λ k. holds t s (t.id r k)) c) four ∙ but_one (λ k. holds t s (t.id r k)) c l))

  module _ (up : (r : ℕ) → r < t.rows → Rising t r) where
    -- the rows that hold the triangle at a place
    triangle_count : (r c : ℕ) → r < t.rows → c < 4 → count (4 * t.rows) (like t 0 4 (4 * r + c)) ≡ count t.rows (side t r c)
    triangle_count r c l m =
        like_count t four up triangles (4 * r + c) (place_below {m = 4} (lit< tt) t.rows r c l m)
        ∙ count_same t.rows (holds_ids t (face_at t 0 4 (4 * r + c))) (side t r c) (λ s _.
        ap (λ (f : Face). holds_ids t f s) (face_at_lem t four up triangles r c m) ∙ side_ids r c s m)

    -- the triangle rule at a row, place by place
    pub rule_by_places : (r : ℕ) → r < t.rows → triangles_shared t r ≡ all 4 (λ c. eqb (count (4 * t.rows) (like t 0 4 (4 * r + c))) 2)
    unfolding triangles_shared
    rule_by_places r l =
        ap (λ (n : ℕ). all n (λ c. eqb (count t.rows (side t r c)) 2)) four
        ∙ all_same 4 (λ c. eqb (count t.rows (side t r c)) 2) (λ c. eqb (count (4 * t.rows) (like t 0 4 (4 * r + c))) 2)
        (λ c m. ap (λ (n : ℕ). eqb n 2) (sym (triangle_count r c l m)))

    -- the row across is the row of the other place
    across_place : (p : ℕ) → p < 4 * t.rows → count (4 * t.rows) (like t 0 4 p) ≡ 2
        → highest (4 * t.rows) (another t 0 4 p) / 4 ≡ across t (p / 4) (p % 4)
    unfolding another
    across_place p l two =
        ap (λ (k : ℕ). k / 4) (highest_is (4 * t.rows) (another t 0 4 p) other o.below
        (and_both o.is (ap not (ne_eqb other p o.differs))) (λ j k q.
        o.only j k (and_first (like t 0 4 p j) (not (eqb j p)) q) (eqb-false j p (not-true (eqb j p) (and_second (like t 0 4 p j) (not (eqb j p)) q)))))
        ∙ sym (across_other t (p / 4) (p % 4) (record {
          other = other / 4;
          below = row_below {m = 4} (lit< tt) t.rows other o.below;
          is = (side_reads t (p / 4) (p % 4) (other / 4)).0 (sym (side_ids (p / 4) (p % 4) (other / 4) (mod-lt p (lit< tt)))
              ∙ like_holds t four up triangles p l (other / 4) (other % 4) (mod-lt other (lit< tt)) (at other o.is));
          differs = λ (e : other / 4 ≡ p / 4). o.differs (row_and_face other p e
              (one_like t four up triangles p l (p / 4) (row_below {m = 4} (lit< tt) t.rows p l) (other % 4) (p % 4) (mod-lt other (lit< tt)) (mod-lt p (lit< tt))
              (rw (← e) (at other o.is)) (at p (like_self t 0 4 p))));
          only = λ s k on ne.
              let (e, le, q) = holds_like t four up triangles p l s k (side_ids (p / 4) (p % 4) s (mod-lt p (lit< tt)) ∙ (side_reads t (p / 4) (p % 4) s).1 on) in
              row_of_place s e other le (o.only (4 * s + e) (place_below {m = 4} (lit< tt) t.rows s e k le) q (λ (f : 4 * s + e ≡ p). ne (row_of_place s e p le f)));
        }))
      where
        o : TheOther (4 * t.rows) (λ q. like t 0 4 p q ≡ true) p
        o = count_other (4 * t.rows) (like t 0 4 p) two p l (like_self t 0 4 p)

        other : ℕ
        other = o.other

        at : (q : ℕ) → like t 0 4 p q ≡ true → like t 0 4 p (4 * (q / 4) + q % 4) ≡ true
        at q e = rw (div-add-mod q 4) e

        row_and_face : (x y : ℕ) → x / 4 ≡ y / 4 → x % 4 ≡ y % 4 → x ≡ y
        row_and_face x y e f = omega arith

        row_of_place : (s e x : ℕ) → e < 4 → 4 * s + e ≡ x → s ≡ x / 4
        row_of_place s e x le f = omega arith

    -- ---- place by place

    pub unshared_row : (p : ℕ) → lowest (4 * t.rows) (unshared_at t) ≡ some p → some (p / 4) ≡ lowest t.rows (unshared t)
    unshared_row p e = sym (broken_row {m = 4} (lit< tt) t.rows (fine t) (triangles_shared t) rule_by_places p e)

    pub unshared_none : lowest (4 * t.rows) (unshared_at t) ≡ none → none ≡ lowest t.rows (unshared t)
    unshared_none e = sym (broken_none {m = 4} (lit< tt) t.rows (fine t) (triangles_shared t) rule_by_places e)

    list_by_places : neighbour_list t ≡ tabulate (4 * t.rows) (across_at t)
    unfolding neighbour_list
    list_by_places = ap (λ (n : ℕ). tabulate (n * t.rows) (λ k. across t (k / n) (k % n))) four

    module _ {place : ℕ} {work work₀ : List ℕ} (l : Listed t place work work₀) (here : place < 4 * t.rows) {n : ℕ} (counted : n ≡ count (4 * t.rows) (like t 0 4 place)) where
      pub list_turn : {other : ℕ} → 4 * t.rows ≤ length work₀ → other ≡ highest (4 * t.rows) (another t 0 4 place) → n ≡ 2 → Listed t (place + 1) (set work place (other / 4)) work₀
      list_turn {other} room last two = record {
        upto = omega arith;
        kept = length-set work place (other / 4) ∙ l.kept;
        shared = searched_more place (unshared_at t) l.shared (ap not (eq-eqb (count (4 * t.rows) (like t 0 4 place)) 2 (sym counted ∙ two)));
        front = rw (l.front, last, across_place place here (sym counted ∙ two)) (written_more place (across_at t) work₀ (omega arith));
      }

      pub list_refuses : n ≢ 2 → some (place / 4) ≡ lowest t.rows (unshared t)
      list_refuses off =
          unshared_row place (search_stops (4 * t.rows) place (unshared_at t) l.shared here
          (ap not (ne_eqb (count (4 * t.rows) (like t 0 4 place)) 2 (λ e. off (counted ∙ e)))))

    pub list_ends : {place : ℕ} {work work₀ : List ℕ} → Listed t place work work₀ → 4 * t.rows ≤ place
        → (none ≡ lowest t.rows (unshared t)) × (work ≡ written (neighbour_list t) work₀)
    list_ends {place} {work₀ = work₀} l m =
        let e : place ≡ 4 * t.rows = le_antisymm l.upto m in (
          unshared_none (search_ends (4 * t.rows) place (unshared_at t) l.shared m),
          l.front ∙ ap (λ (k : ℕ). written (tabulate k (across_at t)) work₀) e ∙ ap (λ (xs : List ℕ). written xs work₀) (sym list_by_places),
        )
