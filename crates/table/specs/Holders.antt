-- The rows that hold an edge or a vertex: whether they are joined is found by a flood from one of them.
use Rattle.std.specs.Prelude.{◌≡◌, Bool, ◌&&◌, ℕ, ◌+◌, ◌*◌, ◌/◌, ◌%◌, ◌≤◌, ◌<◌, eqb, length, get_or, set, replicate}
use Rattle.std.proofs.Math.Path.{refl, sym, ap, subst}
use Rattle.std.proofs.Common.{◌∙◌, lit<, get_or-set_other}
use Rattle.std.proofs.Math.Bool.{true, false, not, cond, and_assoc, and-true, and_self}
use mathlib.Core.List.{List, [], ◌∷◌, map, flatten}
use Rattle.std.proofs.Math.Option.{some, none}
use Rattle.std.proofs.Math.Nat.{mod-lt}
use native.Mathlib.Omega.{arith}
use Rattle.std.proofs.lemmas.List.{get_or-replicate}
use Rattle.std.proofs.lemmas.Bool.{not-true, not-false}
use Rattle.rules.specs.Below.{lowest, any, all, gather, tabulate, count, pick}
use Rattle.rules.specs.Joined.{connected}
use Rattle.rules.specs.Shape.{edge_table, vertices, triangle_table}
use Rattle.rules.specs.Table.{Table, holds, neighbours, across, holds_face, face_joined, faces_joined, edges_joined, vertices_joined}
use Rattle.rules.specs.Laws.Below.{any_some, all_same}
use Rattle.rules.specs.Laws.Truth.{and_first}
use Rattle.rules.specs.Laws.Count.{count_same, count_not}
use Rattle.rules.specs.Laws.Lists.{pick_same}
use Rattle.rules.specs.Laws.Places.{row_of, within_row}
use Rattle.rules.specs.Laws.Joined.{stay, Picked}
use Rattle.rules.specs.Reading.Rows.{Rising}
use Rattle.rules.specs.Reading.Neighbours.{neighbours_read, neighbours_back}
use Rattle.rules.specs.Reading.Closed.{Paired, across_below}
use Rattle.rules.specs.Reading.Moves.{both, leaves, Joining, move_good, step_is_move}
use Rattle.table.specs.declared.faces.Face.{Face}
use Rattle.table.specs.Faces.{Kind, face_corners, corner_of, face_of, holds_ids, same_ids_lem, own_face, kind_small, repeats}
use Rattle.table.specs.Places.{face_at, face_at_lem, like, like_count, broken_row, broken_none}
use Rattle.table.specs.Rows.{rows_in, table_in, RisingRows}
use Rattle.table.specs.Ground.{Ground}
use Rattle.floods.specs.Flood.{stamped, Flooding, Flooded, flood_begins, flood_turn, flood_room, flood_ends, joined_by_count}
use Rattle.rules.specs.Job.{most_rows}

unfoldable pub both_joined : Table → ℕ → ℕ → Bool
both_joined t a b = connected (neighbours t) (pick t.rows (both t a b))

-- the rows that hold a face are joined
unfoldable pub ids_joined : Table → Face → Bool
ids_joined t f = both_joined t f.a f.b

-- the edges, or the vertices, of row r
unfoldable pub all_joined : Table → ℕ → ℕ → ℕ → Bool
all_joined t base m r = all m (λ e. ids_joined t (face_of t r (base + e)))

-- what codes 8 and 9 look for
abbrev pub unjoined : Table → ℕ → ℕ → ℕ → Bool
unjoined t base m r = not (all_joined t base m r)

-- edges or vertices
abbrev pub Joint : ℕ → ℕ → Type 0
Joint base m = Kind base m × (4 ≤ base)

-- between two floods: the stamps are at most k
abbrev pub Scratch : ℕ → ℕ → List ℕ → Type 0
Scratch n k stamp = (y : ℕ) → y < n → get_or stamp y 0 ≤ k

pub zero_scratch : (n : ℕ) → n ≤ most_rows → Scratch n 0 (replicate most_rows 0)
zero_scratch n few y l = rw (get_or-replicate {A = ℕ} most_rows y 0 0 (omega arith)) (omega arith)

-- ---- edge rule and vertex rule by faces

module _ (t : Table) (r : ℕ) where
  edge_joined : (i j : ℕ) → face_joined t r (i ∷ j ∷ []) ≡ both_joined t (t.id r i) (t.id r j)
  unfolding face_joined both_joined both holds_face
  edge_joined i j = ap (connected (neighbours t)) (pick_same t.rows (holds_face t r (i ∷ j ∷ [])) (both t (t.id r i) (t.id r j)) (λ s _. ap (λ (b : Bool). holds t s (t.id r i) && b) (and-true (holds t s (t.id r j)))))

  vertex_joined : (c : ℕ) → face_joined t r (c ∷ []) ≡ both_joined t (t.id r c) (t.id r c)
  unfolding face_joined both_joined both holds_face
  vertex_joined c = ap (connected (neighbours t)) (pick_same t.rows (holds_face t r (c ∷ [])) (both t (t.id r c) (t.id r c)) (λ s _. and-true (holds t s (t.id r c)) ∙ sym (and_self (holds t s (t.id r c)))))

  pub edges_joined_lem : edges_joined t r ≡ all_joined t 4 6 r
  unfolding edges_joined faces_joined edge_table all_joined all ids_joined face_of corner_of face_corners triangle_table vertices tabulate gather map flatten
  edges_joined_lem = rw (edge_joined 0 1, edge_joined 0 2, edge_joined 0 3, edge_joined 1 2, edge_joined 1 3, edge_joined 2 3) (simp (and_assoc, and-true))

  pub vertices_joined_lem : t.corners ≡ 4 → vertices_joined t r ≡ all_joined t 10 4 r
  unfolding vertices_joined faces_joined vertices tabulate gather all_joined all ids_joined face_of corner_of face_corners triangle_table edge_table map flatten
  vertices_joined_lem four =
      ap (λ (n : ℕ). faces_joined t r (vertices n)) four
      ∙ rw (vertex_joined 0, vertex_joined 1, vertex_joined 2, vertex_joined 3) (simp (and_assoc, and-true))

-- ---- how many rows hold an edge or a vertex

both_count : (t : Table) → t.corners ≡ 4 → ((r : ℕ) → r < t.rows → Rising t r) → {base m : ℕ} → Kind base m → 4 ≤ base → (p : ℕ) → p < m * t.rows
    → count (m * t.rows) (like t base m p) ≡ count t.rows (both t (face_at t base m p).a (face_at t base m p).b)
unfolding both holds_ids face_of
both_count t four up {base} {m} kind l p lp =
    like_count t four up kind p lp
    ∙ count_same t.rows (holds_ids t (face_at t base m p)) (both t (face_at t base m p).a (face_at t base m p).b) (λ s _.
    rw (repeats (base + p % m) (omega arith) (omega (arith, (kind_small kind).2, mod-lt p (kind_small kind).0)))
    (twice (holds t s (t.id (p / m) (corner_of (base + p % m) 0))) (holds t s (t.id (p / m) (corner_of (base + p % m) 1)))))
  where
    twice : (x y : Bool) → x && y && y ≡ x && y
    twice x y = and_assoc x y y ∙ ap (λ (z : Bool). x && z) (and_self y)

-- ---- the flood from a row

pub four_ways : 0 < 4
four_ways = lit< tt

module _ {t : Table} {id_count : ℕ} (paired : Paired t id_count) (four : t.corners ≡ 4) where
  -- As many rows are reached as hold a and b, exactly if these are joined.
  rows_joined : (a b k start : ℕ) (stamp : List ℕ) (reached : ℕ) → Picked t.rows (both t a b) start
      → Flooded four_ways t.rows k start (leaves t a b) (across t) (Joining t a b start) stamp reached → eqb reached (count t.rows (both t a b)) ≡ both_joined t a b
  unfolding both_joined
  rows_joined a b k start =
      joined_by_count four_ways t.rows k start (leaves t a b) (across t) (both t a b) (neighbours t)
      (λ x y (lx, _) (ly, _) n. (neighbours_read t y x).1 (neighbours_back t x y (paired.rising x lx) (paired.rising y ly) ((neighbours_read t x y).0 n))) (step_is_move paired four a b)

-- ---- the flood over a row section

abbrev pub FloodingRows : List ℕ → ℕ → ℕ → ℕ → ℕ → List ℕ → List ℕ → ℕ → ℕ → Type 0
FloodingRows bytes a b start k = Flooding four_ways (rows_in bytes) k start (leaves (table_in bytes) a b) (across (table_in bytes)) (Joining (table_in bytes) a b start)

module _ {bytes work : List ℕ} {ids : ℕ} (ground : Ground bytes work ids) (a b start k : ℕ) where
  pub rows_begin : (stamp queue : List ℕ) → start < rows_in bytes → both (table_in bytes) a b start ≡ true → length stamp ≡ most_rows → length queue ≡ most_rows
      → ((y : ℕ) → y < rows_in bytes → get_or stamp y 0 < k) → FloodingRows bytes a b start k (set stamp start k) (set queue 0 start) 0 1
  rows_begin stamp queue l held = flood_begins four_ways (rows_in bytes) k start (leaves (table_in bytes) a b) (across (table_in bytes)) (Joining (table_in bytes) a b start) stamp queue l ground.few (stay (l, held) refl)

  module _ {stamp queue : List ℕ} {i tail : ℕ} (f : FloodingRows bytes a b start k stamp queue i tail) where
    pub few_reached : tail ≤ most_rows
    few_reached = omega (arith, ground.few, f.counted, count_not (rows_in bytes) (stamped k stamp))

    pub rows_end : start < rows_in bytes → both (table_in bytes) a b start ≡ true → 4 * tail ≤ i → (eqb tail (count (rows_in bytes) (both (table_in bytes) a b)) ≡ both_joined (table_in bytes) a b)
        × (length stamp ≡ most_rows) × (length queue ≡ most_rows) × ((y : ℕ) → y < rows_in bytes → get_or stamp y 0 ≤ k)
    rows_end ls held l = (rows_joined ground.paired refl a b k start stamp tail (ls, held) (flood_ends four_ways (rows_in bytes) k start (leaves (table_in bytes) a b) (across (table_in bytes)) (Joining (table_in bytes) a b start) f l), f.stamps, f.places, f.low)

-- row x stands at place i of the queue, and the corners below `corner` are done
pub record Spreading (bytes : List ℕ) (a b start k i x corner : ℕ) (stamp queue : List ℕ) (tail : ℕ) : Type 0 where
  pub flood : FloodingRows bytes a b start k stamp queue (4 * i + corner) tail
  pub from : start < rows_in bytes
  pub waits : i < tail
  pub at : x ≡ get_or queue i 0

module _ {bytes work : List ℕ} {ids : ℕ} (ground : Ground bytes work ids) (a b start k i x corner : ℕ) (lc : corner < 4) {stamp queue : List ℕ} {tail : ℕ}
    (s : Spreading bytes a b start k i x corner stamp queue tail) where
  pub reached_below : x < rows_in bytes
  reached_below = rw s.at (s.flood.inside i s.waits).0

  module _ {y : ℕ} (is_across : y ≡ across (table_in bytes) x corner) where
    across_near : y < rows_in bytes
    across_near = rw is_across (across_below ground.paired x corner reached_below lc)

    module _ {way : Bool} (ew : way ≡ leaves (table_in bytes) a b x corner) where
      -- a turn that finds the row across, if it is fresh
      turn : {stamp' queue' : List ℕ} {tail' : ℕ} → stamp' ≡ cond (way && not (eqb (get_or stamp y 0) k)) (set stamp y k) stamp
          → queue' ≡ cond (way && not (eqb (get_or stamp y 0) k)) (set queue tail y) queue → tail' ≡ cond (way && not (eqb (get_or stamp y 0) k)) (tail + 1) tail
          → Spreading bytes a b start k i x (corner + 1) stamp' queue' tail'
      unfolding stamped
      turn {stamp'} {queue'} {tail'} es eq et = record {
        flood = subst (λ (turn : ℕ). FloodingRows bytes a b start k stamp' queue' turn tail') (omega arith)
            (flood_turn four_ways (rows_in bytes) k start (leaves (table_in bytes) a b) (across (table_in bytes)) (Joining (table_in bytes) a b start) s.flood (omega (arith, s.waits)) {x = x} {y = y}
            (rw (row_of four_ways i corner lc) s.at) (rw (within_row four_ways i corner lc) is_across) ground.few across_near
            (rw (within_row four_ways i corner lc) (λ w. rw is_across (move_good ground.paired refl a b start x corner reached_below lc (rw s.at (s.flood.inside i s.waits).1) w)))
            {fresh = way && not (eqb (get_or stamp y 0) k)} (rw (within_row four_ways i corner lc) (ap (λ (v : Bool). v && not (eqb (get_or stamp y 0) k)) ew)) es eq et);
        from = s.from;
        waits = rw et (longer (way && not (eqb (get_or stamp y 0) k)));
        at = s.at ∙ rw eq (kept (way && not (eqb (get_or stamp y 0) k)));
      }
        where
          longer : (fresh : Bool) → i < cond fresh (tail + 1) tail
          longer true = omega (arith, s.waits)
          longer false = s.waits

          kept : (fresh : Bool) → get_or queue i 0 ≡ get_or (cond fresh (set queue tail y) queue) i 0
          kept true = sym (get_or-set_other queue tail i y 0 (λ (e : i ≡ tail). omega (arith, s.waits)))
          kept false = refl

      -- y where one leaves, else the start
      module _ {z : ℕ} (ez : z ≡ cond way y start) where
        pub next_below : z < rows_in bytes
        next_below = rw ez (either way)
          where
            either : (b : Bool) → cond b y start < rows_in bytes
            either true = across_near
            either false = s.from

        -- a fresh row finds room in the queue
        pub next_room : not (eqb (get_or stamp z 0) k) ≡ true → tail < most_rows
        unfolding stamped
        next_room on =
            omega (
              arith,
              ground.few,
              flood_room four_ways (rows_in bytes) k start (leaves (table_in bytes) a b) (across (table_in bytes)) (Joining (table_in bytes) a b start) s.flood z next_below (not-true (stamped k stamp z) on),
            )

        -- what is done to a fresh z is done to y, if one leaves and y is fresh
        done_across : {A : Type 0} (g : ℕ → A) (old : A) → cond (not (eqb (get_or stamp z 0) k)) (g z) old ≡ cond (way && not (eqb (get_or stamp y 0) k)) (g y) old
        unfolding stamped
        done_across g old = rw ez (either way)
          where
            either : (b : Bool) → cond (not (eqb (get_or stamp (cond b y start) 0) k)) (g (cond b y start)) old ≡ cond (b && not (eqb (get_or stamp y 0) k)) (g y) old
            either true = refl
            either false = ap (λ (t : Bool). cond (not t) (g start) old) s.flood.begun

        pub spread_turn : {stamp' queue' : List ℕ} {tail' : ℕ} → stamp' ≡ cond (not (eqb (get_or stamp z 0) k)) (set stamp z k) stamp
            → queue' ≡ cond (not (eqb (get_or stamp z 0) k)) (set queue tail z) queue → tail' ≡ cond (not (eqb (get_or stamp z 0) k)) (tail + 1) tail
            → Spreading bytes a b start k i x (corner + 1) stamp' queue' tail'
        spread_turn es eq et = turn (es ∙ done_across (λ v. set stamp v k) stamp) (eq ∙ done_across (λ v. set queue tail v) queue) (et ∙ done_across (λ _. tail + 1) tail)

-- ---- the edge rule and the vertex rule, place by place

abbrev pub unjoined_at : Table → ℕ → ℕ → ℕ → Bool
unjoined_at t base m q = not (ids_joined t (face_at t base m q))

module _ (bytes : List ℕ) {base m : ℕ} (joint : Joint base m) where
  -- the rule at a row
  rule_by_places : (up : (r : ℕ) → r < rows_in bytes → Rising (table_in bytes) r) (r : ℕ) → r < rows_in bytes
      → all_joined (table_in bytes) base m r ≡ all m (λ e. ids_joined (table_in bytes) (face_at (table_in bytes) base m (m * r + e)))
  unfolding all_joined
  rule_by_places up r l =
      all_same m (λ e. ids_joined (table_in bytes) (face_of (table_in bytes) r (base + e))) (λ e. ids_joined (table_in bytes) (face_at (table_in bytes) base m (m * r + e)))
      (λ e k. ap (ids_joined (table_in bytes)) (sym (face_at_lem (table_in bytes) refl up joint.0 r e k)))

  -- a place that is not the first with its ids is joined as the first is
  pub joined_before : (place : ℕ) → ((q : ℕ) → q < place → ids_joined (table_in bytes) (face_at (table_in bytes) base m q) ≡ true)
      → {first : Bool} → first ≡ not (any place (like (table_in bytes) base m place)) → first ≡ false → true ≡ ids_joined (table_in bytes) (face_at (table_in bytes) base m place)
  unfolding like
  joined_before place earlier e off =
      let (q, l, same) = any_some place (like (table_in bytes) base m place) (not-false (any place (like (table_in bytes) base m place)) (sym e ∙ off)) in
      sym (ap (ids_joined (table_in bytes)) (same_ids_lem (face_at (table_in bytes) base m place) (face_at (table_in bytes) base m q) same) ∙ earlier q l)

  -- the row of a place holds its face
  pub own_both : (place : ℕ) {f : Face} → f ≡ face_at (table_in bytes) base m place → both (table_in bytes) f.a f.b (place / m) ≡ true
  unfolding both holds_ids
  own_both place {f} e =
      rw e (and_first (held (face_at t base m place).a && held (face_at t base m place).b) (held (face_at t base m place).c)
      (own_face t refl (place / m) (base + place % m) (omega (arith, (kind_small joint.0).2, mod-lt place (kind_small joint.0).0))))
    where
      t : Table
      t = table_in bytes

      held : ℕ → Bool
      held v = holds t (place / m) v

  -- the flood has reached as many rows as there are places with the ids
  pub joined_found : RisingRows bytes → (place : ℕ) → place < m * rows_in bytes → {f : Face} → f ≡ face_at (table_in bytes) base m place → (reached : ℕ) {n : ℕ}
      → eqb reached (count (rows_in bytes) (both (table_in bytes) f.a f.b)) ≡ both_joined (table_in bytes) f.a f.b
      → n ≡ count (m * rows_in bytes) (like (table_in bytes) base m place) → eqb reached n ≡ ids_joined (table_in bytes) (face_at (table_in bytes) base m place)
  unfolding ids_joined
  joined_found rows place l {f} e reached found counted =
      ap (eqb reached) (counted ∙ both_count (table_in bytes) refl rows.rise joint.0 joint.1 place l) ∙ (rw e at found)

  pub unjoined_row : RisingRows bytes → (p : ℕ) → lowest (m * rows_in bytes) (unjoined_at (table_in bytes) base m) ≡ some p → some (p / m) ≡ lowest (rows_in bytes) (unjoined (table_in bytes) base m)
  unjoined_row rows p e =
      sym (broken_row (kind_small joint.0).0 (rows_in bytes) (λ q. ids_joined (table_in bytes) (face_at (table_in bytes) base m q)) (all_joined (table_in bytes) base m)
      (rule_by_places rows.rise) p e)

  pub unjoined_none : RisingRows bytes → lowest (m * rows_in bytes) (unjoined_at (table_in bytes) base m) ≡ none → none ≡ lowest (rows_in bytes) (unjoined (table_in bytes) base m)
  unjoined_none rows e =
      sym (broken_none (kind_small joint.0).0 (rows_in bytes) (λ q. ids_joined (table_in bytes) (face_at (table_in bytes) base m q)) (all_joined (table_in bytes) base m)
      (rule_by_places rows.rise) e)
