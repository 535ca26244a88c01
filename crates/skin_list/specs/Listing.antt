-- The skin list, place by place: place p is the triangle of row p / 4 that leaves out corner p % 4.
use Rattle.std.specs.Prelude.{◌≡◌, refl, Bool, true, false, not, ◌&&◌, cond, ℕ, suc, ◌+◌, ◌*◌, ◌/◌, ◌%◌, ◌≤◌, ◌<◌, length, set}
use Rattle.std.proofs.Math.Path.{sym, ap}
use Rattle.std.proofs.Common.{◌∙◌, le_antisymm, mod-lt, add-one, arith, lit<, length-append}
use Rattle.std.proofs.Math.Option.{some}
use mathlib.Core.List.{List, [], ◌∷◌, ◌++◌, flatten, append-nil}
use Rattle.std.proofs.lemmas.List.Edits.{sets}
use Rattle.std.proofs.Math.Seq.{length-sets}
use Rattle.rules.specs.Below.{gather, only}
use Rattle.rules.specs.Table.{Table}
use Rattle.rules.specs.Skin.{on_skin, triangle, skin_as}
use Rattle.rules.specs.Points.{Point, point_in}
use Rattle.rules.specs.Outward.{right_way, exchanged, triangle_as}
use Rattle.rules.specs.Proposals.{inside_in}
use Rattle.rules.specs.Job.{written}
use Rattle.rules.specs.Laws.Lists.{gather_more, gather_grows, flatten_snoc}
use Rattle.rules.specs.Laws.Written.{written_none, written_run}
use Rattle.rules.specs.Reading.Room.{skin_same_length, at_most_2_n, skin_by_place}
use Rattle.table.specs.Rows.{id_in, table_in, rows_in}
use Rattle.table.specs.Faces.{corner_of}
use Rattle.skin_list.specs.declared.order.Order.{Order}
use Rattle.skin_list.specs.declared.order.Order.TheVariants.{Rising, Outward}
use Rattle.skin_list.specs.Orders.{rows_of, points_of, is_turned}
use Rattle.rules.specs.Reading.Closed.{Paired}
use Rattle.points.specs.Sides.{triangle_ids}

-- ---- a triangle

-- the ids of a triangle, rising or with the last two exchanged
abbrev pub in_order : Bool → Table → ℕ → ℕ → List ℕ
in_order turned t r c = cond turned (exchanged (triangle t r c)) (triangle t r c)

-- its three ids, put from a place on
pub triangle_put : (bytes : List ℕ) (r c : ℕ) → c < 4 → (turned : Bool) (triangles : List ℕ) (at : ℕ) {a b i j k : ℕ} → a ≡ cond turned 2 1 → b ≡ cond turned 1 2
    → i ≡ id_in bytes r (corner_of c 0) → j ≡ id_in bytes r (corner_of c a) → k ≡ id_in bytes r (corner_of c b)
    → set (set (set triangles at i) (at + 1) j) (at + 2) k ≡ sets triangles at (in_order turned (table_in bytes) r c)
unfolding exchanged
triangle_put bytes r c l true triangles at ea eb ei ej ek =
    let two : suc (suc at) ≡ at + 2 = omega arith in
    rw (triangle_ids bytes r c l, ei, ej, ek, ea, eb, two, ← add-one at)
triangle_put bytes r c l false triangles at ea eb ei ej ek =
    let two : suc (suc at) ≡ at + 2 = omega arith in
    rw (triangle_ids bytes r c l, ei, ej, ek, ea, eb, two, ← add-one at)

-- ---- place by place, with the ids of each triangle in whatever order they are listed in

module _ (bytes marks : List ℕ) (ids : ℕ → ℕ → List ℕ) where
  -- what a place adds to the list
  unfoldable pub listed_at : ℕ → List (List ℕ)
  listed_at p = only (inside_in marks (p / 4) && on_skin (table_in bytes) (inside_in marks) (p / 4) (p % 4)) (ids (p / 4) (p % 4))

  -- the list up to a place
  abbrev pub listed_to : ℕ → List (List ℕ)
  listed_to p = gather p listed_at

  whole_list : listed_to (4 * rows_in bytes) ≡ skin_as (table_in bytes) (inside_in marks) ids
  unfolding listed_at
  whole_list = sym (skin_by_place (table_in bytes) (inside_in marks) ids refl)

  -- before a place: n triangles stand at the front
  pub record Listing (place n : ℕ) (triangles triangles₀ : List ℕ) : Type 0 where
    pub upto : place ≤ 4 * rows_in bytes
    pub kept : length triangles ≡ length triangles₀
    pub counted : n ≡ length (listed_to place)
    pub words : 3 * n ≡ length (flatten (listed_to place))
    pub front : triangles ≡ written (flatten (listed_to place)) triangles₀

  pub list_begins : (triangles : List ℕ) → Listing 0 0 triangles triangles
  unfolding gather flatten
  list_begins triangles = record { upto = omega arith; kept = refl; counted = refl; words = refl; front = written_none triangles }

  pub list_ends : {place n : ℕ} {triangles triangles₀ : List ℕ} → Listing place n triangles triangles₀ → 4 * rows_in bytes ≤ place
      → (n ≡ length (skin_as (table_in bytes) (inside_in marks) ids)) × (triangles ≡ written (flatten (skin_as (table_in bytes) (inside_in marks) ids)) triangles₀)
  list_ends {place} {triangles₀ = triangles₀} l m =
      let whole = ap listed_to (le_antisymm l.upto m) ∙ whole_list in (
        l.counted ∙ ap length whole,
        l.front ∙ ap (λ (xs : List (List ℕ)). written (flatten xs) triangles₀) whole,
      )

module _ {bytes : List ℕ} {id_count : ℕ} (paired : Paired (table_in bytes) id_count) (marks : List ℕ) (ids : ℕ → ℕ → List ℕ) (threes : (r c : ℕ) → c < 4 → length (ids r c) ≡ 3)
    {place n : ℕ} {triangles triangles₀ : List ℕ} (l : Listing bytes marks ids place n triangles triangles₀)
    (here : place < 4 * rows_in bytes) (room : 6 * rows_in bytes ≤ length triangles₀)
    {listed : Bool} (el : listed ≡ (inside_in marks (place / 4) && on_skin (table_in bytes) (inside_in marks) (place / 4) (place % 4))) where
  abbrev to : ℕ → List (List ℕ)
  to = listed_to bytes marks ids

  abbrev it : List ℕ
  it = ids (place / 4) (place % 4)

  more : to (place + 1) ≡ to place ++ only listed it
  unfolding listed_at
  more =
      gather_more place (listed_at bytes marks ids)
      ∙ ap (λ (b : Bool). to place ++ only b it) (sym el)

  module _ (on : listed ≡ true) where
    one_more : to (place + 1) ≡ to place ++ it ∷ []
    unfolding only
    one_more = more ∙ ap (λ (b : Bool). to place ++ only b it) on

    n_more : n + 1 ≡ length (to (place + 1))
    n_more = rw (one_more, length-append, ← l.counted)

    three : length it ≡ 3
    three = threes (place / 4) (place % 4) (mod-lt place (lit< tt))

    pub next_room : 3 * n + 3 ≤ length triangles
    next_room =
        omega (
          arith,
          l.kept,
          n_more,
          gather_grows (place + 1) (4 * rows_in bytes) (listed_at bytes marks ids) (omega arith),
          ap length (whole_list bytes marks ids),
          skin_same_length (table_in bytes) (inside_in marks) ids,
          at_most_2_n (table_in bytes) (inside_in marks) paired refl,
        )

    pub found : Listing bytes marks ids (place + 1) (n + 1) (sets triangles (3 * n) it) triangles₀
    found = record {
      upto = omega arith;
      kept = length-sets triangles (3 * n) it ∙ l.kept;
      counted = n_more;
      words = omega (arith, l.words, three, ap length flat, length-append (flatten (to place)) it);
      front = ap (λ (xs : List ℕ). sets xs (3 * n) it) l.front
          ∙ written_run it (flatten (to place)) triangles₀ (3 * n) l.words (omega (arith, three, next_room, l.kept))
          ∙ ap (λ (xs : List ℕ). written xs triangles₀) (sym flat);
    }
      where
        flat : flatten (to (place + 1)) ≡ flatten (to place) ++ it
        flat = ap flatten one_more ∙ flatten_snoc (to place) it

  pub passed : listed ≡ false → Listing bytes marks ids (place + 1) n triangles triangles₀
  unfolding only
  passed off =
      let same = more ∙ ap (λ (b : Bool). to place ++ only b it) off ∙ append-nil (to place) in
      record { upto = omega arith; kept = l.kept; counted = rw same l.counted; words = rw same l.words; front = rw same l.front }

-- ---- outward, where it is asked for

-- rising ids are the wrong way, of a triangle that is listed
pub turned_order : {listed turned : Bool} (outward : Bool) (t : Table) (at : ℕ → Point) (r c : ℕ) → turned ≡ (listed && outward && not (right_way t at r c)) → listed ≡ true
    → in_order turned t r c ≡ triangle_as t outward (some at) r c
unfolding triangle_as
turned_order outward t at r c e on = rw (e, on)

-- the same by the order that is made of what is asked for
pub order_turned : {turned : Bool} (order : Order) (r c : ℕ) → turned ≡ is_turned order r c
    → in_order turned (table_in (rows_of order)) r c ≡ triangle_as (table_in (rows_of order)) true (points_of order) r c
unfolding triangle_as
order_turned (Rising t) r c e = rw e
order_turned (Outward p) r c e = turned_order {listed = true} true (table_in p.table.rows.now) (point_in p.points.now) r c e refl
