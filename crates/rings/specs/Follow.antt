-- The ring of a vertex, followed from one skin triangle to the next about their common edge.
use Rattle.std.specs.Prelude.{◌≡◌, refl, Option, Some, None, ◌⊎◌, ◌↔◌, ◌≢◌, Bool, true, false, not, ◌&&◌, ◌||◌, ℕ, ◌+◌, ◌*◌, ◌/◌, ◌%◌, ◌≤◌, ◌<◌, eqb}
use Rattle.std.proofs.Common.{sym, ◌∙◌, inl, inr, ⊎_elim, zero-le, mod-lt, arith, lit<, eqb-true, eq-eqb}
use Rattle.std.proofs.Math.Path.{subst}
use Rattle.std.proofs.Math.Bool.{xor}
use Rattle.std.proofs.lemmas.Bool.{eqb-false, not-false}
use Rattle.rules.specs.Below.{count}
use Rattle.rules.specs.Table.{Table, across}
use Rattle.rules.specs.Skin.{on_skin, far_edge, skin_vertex, one_ring, ringless}
use Rattle.rules.specs.Laws.Truth.{true_or_false, not_both, is_false, is_true, same_test, and_reads, or_reads, not_reads, eqb_reads, and_first, and_second, same_or_not}
use Rattle.rules.specs.Laws.Count.{ExactlyTwo, sum_zero, count_same, count_some, count_two, two_count, count_other, count_zero}
use Rattle.rules.specs.Laws.Highest.{highest, highest_passes}
use Rattle.rules.specs.Laws.Places.{row_below}
use Rattle.rules.specs.Reading.Rows.{Holds}
use Rattle.rules.specs.Reading.Neighbours.{Side, side_self}
use Rattle.rules.specs.Reading.Closed.{Paired, Closed, across_is, across_other}
use Rattle.rules.specs.Reading.Skin.{different_reads, skin_between, far_back}
use Rattle.rules.specs.Reading.Ring.{one_ring_reads, off_skin_ring}
use Rattle.table.specs.Faces.{face_of}
use Rattle.rings.specs.declared.ring.Landing.{Landing}
use Rattle.round.specs.Trail.{Next, with, pair}
use Rattle.round.specs.Edge.{way_on, Turned}
use Rattle.rings.specs.Far.{in_face, first_end, second_end, in_face_lem, first_in, second_in, split, face_rises, face_corner, differ_far, shown, shown_at}
use Rattle.rings.specs.Ends.{ends_of, ends_twice}
use Rattle.rings.specs.Sides.{Between, seen_back, between_far, far_between, far_swapped, turned_between, turned_new, two_between, more_than_two}
use Rattle.rings.specs.Ring.{sum_le_same, Following, Joins, follow_begins, follow_more, follow_few, ring_closes}

-- the edge of v and w is in a skin triangle, which is between the inside row x and the outside row y
abbrev pub SkinEdge : Table → (ℕ → Bool) → ℕ → ℕ → ℕ → ℕ → Type 0
SkinEdge t inside v w x y = (u : ℕ) × Between t inside v w u x y

-- w lies on exactly two far edges of v
abbrev pub two_far : Table → (ℕ → Bool) → ℕ → ℕ → ℕ → Bool
two_far t inside n v w = eqb (count n (far_edge t inside v w)) 2

-- the vertices below `low` have one ring
abbrev pub RingsBelow : Table → (ℕ → Bool) → ℕ → ℕ → Type 0
RingsBelow t inside n low = (w : ℕ) → w < low → one_ring t inside n w ≡ true

-- From the rows x y one comes about the edge of v and w to the rows p q, whose triangle is another and has the third id `end`.
pub record Landed (t : Table) (inside : ℕ → Bool) (n v w x y : ℕ) (two : Bool) (p q end : ℕ) : Type 0 where
  pub there : Between t inside v w end p q
  pub new : (u : ℕ) → Between t inside v w u x y → end ≢ u
  pub counted : two ≡ two_far t inside n v w

-- so one comes on if w lies on exactly two far edges of v, and nowhere if not
abbrev pub LandedAt : Table → (ℕ → Bool) → ℕ → ℕ → ℕ → ℕ → ℕ → Option Landing → Type 0
LandedAt t inside n v w x y (Some to) = Landed t inside n v w x y true to.inner to.outer to.end
LandedAt t inside n v w x y None = false ≡ two_far t inside n v w

pub not_landed : (t : Table) (inside : ℕ → Bool) (n v w x y : ℕ) {o : Option Landing} → ((to : Landing) → o ≡ Some to → ⊥) → LandedAt t inside n v w x y o → false ≡ two_far t inside n v w
not_landed t inside n v w x y {o = Some to} off h = absurd (off to refl)
not_landed t inside n v w x y {o = None} off h = h

-- On the way, w is the end ahead, in the triangle between x and y. As many ends as `met` says were turned at.
pub record Underway (t : Table) (inside : ℕ → Bool) (n v first w x y met : ℕ) : Type 0 where
  pub second : ℕ
  pub from : ℕ
  pub seen : ℕ → Bool
  pub way : Following n (far_edge t inside v) first second from w met seen
  pub here : Between t inside v w from x y
  pub away : w ≢ first

-- The first end is ahead again, and from the last end one came to it.
pub record Home (t : Table) (inside : ℕ → Bool) (n v first w met : ℕ) : Type 0 where
  pub second : ℕ
  pub from : ℕ
  pub last : ℕ
  pub before : ℕ
  pub seen : ℕ → Bool
  pub way : Following n (far_edge t inside v) first second from last before seen
  pub turned : met ≡ before + 1
  pub two : count n (far_edge t inside v last) ≡ 2
  pub next : Next (Joins n (far_edge t inside v)) from last w
  pub home : w ≡ first

-- Before the first turn one stands at the first end.
abbrev Unturned : Table → (ℕ → Bool) → ℕ → ℕ → ℕ → ℕ → ℕ → ℕ → Type 0
Unturned t inside v first w x y met = (met ≡ 0) × (w ≡ first) × SkinEdge t inside v w x y

abbrev pub Ringing : Table → (ℕ → Bool) → ℕ → ℕ → ℕ → ℕ → ℕ → ℕ → ℕ → Type 0
Ringing t inside n v first w x y met = (Unturned t inside v first w x y met ⊎ Underway t inside n v first w x y met) ⊎ Home t inside n v first w met

-- the loop's test, whether to turn: at first, and until the first end is ahead
turns : (met w first : ℕ) → ((eqb met 0 || not (eqb w first)) ≡ true) ↔ ((met ≡ 0) ⊎ (w ≢ first))
turns met w first = or_reads (eqb_reads met 0) (not_reads (eqb_reads w first))

loopless : (t : Table) (inside : ℕ → Bool) (v a b : ℕ) → far_edge t inside v a b ≡ true → a ≢ b
loopless t inside v a b e = ((different_reads v a b).0 (differ_far t inside v a b e)).2

held_below : {t : Table} {n x u : ℕ} → Paired t n → x < t.rows → Holds t x u → u < n
held_below {t} {n} {x} paired l (c, m, e) = subst (λ i. i < n) e (paired.below x l c m)

module _ {t : Table} {n : ℕ} (closed : Closed t n) (four : t.corners ≡ 4) {inside : ℕ → Bool} {v : ℕ} where
  joins : {w u x y : ℕ} → Between t inside v w u x y → Joins n (far_edge t inside v) w u
  joins p = (held_below closed.paired p.x_below p.x_holds.1, held_below closed.paired p.x_below p.x_holds.2, between_far closed.paired four p)

  -- ---- one turn

  module _ {w x y p q : ℕ} (here : SkinEdge t inside v w x y) (within : Turned t inside v w y x p q) where
    edge : v ≢ w
    edge = here.1.differ.0

    pub landed : {two : Bool} → two ≡ two_far t inside n v w → Landed t inside n v w x y two p q (t.id p (way_on t v w q p))
    landed e = record {
      there = turned_between closed.paired four edge here.1 within;
      new = λ u pu. turned_new closed.paired four edge pu within (turned_between closed.paired four edge here.1 within);
      counted = e;
    }

    -- both ways come to the same triangle exactly if there are but two
    module _ {p' q' : ℕ} (without : Turned t inside v w x y q' p') where
      far_below : (z : ℕ) → far_edge t inside v w z ≡ true → z < n
      far_below z e = let (r, _, b) = far_between closed.paired four z e in held_below closed.paired b.x_below b.x_holds.2

      pub two_asked : (eqb p' p && eqb q' q) ≡ two_far t inside n v w
      two_asked = same_test (eqb p' p && eqb q' q) (two_far t inside n v w) (λ e. eq-eqb (count n (far_edge t inside v w)) 2 (two_count n (far_edge t inside v w) (two (both.0 e)))) (λ e.
          is_true (eqb p' p && eqb q' q) (λ off. more_than_two closed.paired four edge here.1 within without far_below there (λ same. not_both (both.1 same) off)
          (count_two n (far_edge t inside v w) (eqb-true (count n (far_edge t inside v w)) 2 e))))
        where
          both : ((eqb p' p && eqb q' q) ≡ true) ↔ ((p' ≡ p) × (q' ≡ q))
          both = and_reads (eqb_reads p' p) (eqb_reads q' q)

          there : Between t inside v w (t.id p (way_on t v w q p)) p q
          there = turned_between closed.paired four edge here.1 within

          two : (p' ≡ p) × (q' ≡ q) → ExactlyTwo n (λ z. far_edge t inside v w z ≡ true)
          two same = record {
            one = here.0;
            two = t.id p (way_on t v w q p);
            one_below = (joins here.1).1;
            two_below = (joins there).1;
            one_is = between_far closed.paired four here.1;
            two_is = between_far closed.paired four there;
            differ = λ (e : here.0 ≡ t.id p (way_on t v w q p)). turned_new closed.paired four edge here.1 within there (sym e);
            only = λ z _ f. two_between closed.paired four edge here.1 within without closed same there z f;
          }

  -- where w has one ring, v lies on two of its far edges, and so w on two of those of v
  pub two_known : {w x y : ℕ} → SkinEdge t inside v w x y → one_ring t inside n w ≡ true → true ≡ two_far t inside n v w
  two_known {w} (u, here) ring =
      let (lw, lu, far) = joins here in
      let lv = held_below closed.paired here.x_below here.x_holds.0 in
      let two = two_count n (far_edge t inside w v) (((one_ring_reads t inside n w).0 ring).two v u (lv, lu, far_swapped closed.paired four inside v w u far)) in
      sym (eq-eqb (count n (far_edge t inside v w)) 2 (count_same n (far_edge t inside v w) (far_edge t inside w v) (λ z _.
      same_test (far_edge t inside v w z) (far_edge t inside w v z) (far_swapped closed.paired four inside v w z) (far_swapped closed.paired four inside w v z)) ∙ two))

  -- the triangle that one came to has the other of the two far edges
  next_end : {w u x y p q end : ℕ} {two : Bool} → Between t inside v w u x y → Landed t inside n v w x y two p q end → count n (far_edge t inside v w) ≡ 2
      → Next (Joins n (far_edge t inside v)) u w end
  next_end {w} {u} {end = end} here h e =
      let o = count_other n (far_edge t inside v w) e u (joins here).1 (between_far closed.paired four here) in
      let ahead = joins h.there in
      let new = h.new u here in
      record { near = ahead; on = new; only = λ z (_, lz, f) ne. o.only z lz f ne ∙ sym (o.only end ahead.1 ahead.2 new) }

  -- ---- the way round

  ring_false : {w u x y : ℕ} → Between t inside v w u x y → count n (far_edge t inside v w) ≢ 2 → one_ring t inside n v ≡ false
  ring_false {w} {u} here odd =
      is_false (one_ring t inside n v) (λ e. odd (two_count n (far_edge t inside v w) (((one_ring_reads t inside n v).0 e).two w u (joins here))))

  two_edges : {w x y : ℕ} {two : Bool} {p q end : ℕ} → Landed t inside n v w x y two p q end → not two ≡ false → count n (far_edge t inside v w) ≡ 2
  two_edges {w} {two = two} h e = eqb-true (count n (far_edge t inside v w)) 2 (sym h.counted ∙ not-false two e)

  pub turn_fails : {w x y : ℕ} → SkinEdge t inside v w x y → false ≡ two_far t inside n v w → false ≡ one_ring t inside n v
  turn_fails {w} (u, here) e = sym (ring_false here (eqb-false (count n (far_edge t inside v w)) 2 (sym e)))

  module _ {first w x y met : ℕ} (s : Ringing t inside n v first w x y met) (test : (eqb met 0 || not (eqb w first)) ≡ true) where
    on_the_way : Unturned t inside v first w x y met ⊎ Underway t inside n v first w x y met
    on_the_way = ⊎_elim (λ g. g) (λ h. absurd (⊎_elim (λ (z : met ≡ 0). omega (arith, h.turned, z)) (λ ne. ne h.home) ((turns met w first).0 test))) s

    pub ring_edge : SkinEdge t inside v w x y
    ring_edge = ⊎_elim (λ u. u.2) (λ g. (g.from, g.here)) on_the_way

    module _ {told : Bool} {p q end : ℕ} (h : Landed t inside n v w x y told p q end) (e : not told ≡ false) where
      two : count n (far_edge t inside v w) ≡ 2
      two = two_edges h e

      ahead : (g : Underway t inside n v first w x y met) → Next (Joins n (far_edge t inside v)) g.from w end
      ahead g = next_end g.here h two

      pub ring_few : met + 1 ≤ n
      ring_few =
          ⊎_elim (λ (z, _, (_, here)). omega (arith, z, (joins here).0)) (λ g. follow_few n (far_back t inside v) (loopless t inside v) g.way two (ahead g)) on_the_way

      pub ring_more : Ringing t inside n v first end p q (met + 1)
      ring_more = ⊎_elim begins goes on_the_way
        where
          begins : Unturned t inside v first w x y met → Ringing t inside n v first end p q (met + 1)
          begins (z, at, _) =
              let near = joins h.there in
              rw (z, ← at) (inl (inr (record {
                second = end;
                from = w;
                seen = pair w end;
                way = follow_begins n (far_back t inside v) (loopless t inside v) w end near two;
                here = seen_back h.there;
                away = λ (q : end ≡ w). loopless t inside v w end near.2 (sym q);
              })))

          goes : Underway t inside n v first w x y met → Ringing t inside n v first end p q (met + 1)
          goes g =
              ⊎_elim (λ (home : end ≡ first). inr (record {
                second = g.second;
                from = g.from;
                last = w;
                before = met;
                seen = g.seen;
                way = g.way;
                turned = refl;
                two = two;
                next = ahead g;
                home = home;
              })) (λ ne. inl (inr (record {
                second = g.second;
                from = w;
                seen = with g.seen end;
                way = follow_more n (far_back t inside v) (loopless t inside v) g.way two (ahead g) ne;
                here = seen_back h.there;
                away = ne;
              }))) (same_or_not end first)

  -- one ring exactly if as many ends were turned at as v has skin triangles
  pub ring_ends : {first w x y met : ℕ} → Ringing t inside n v first w x y met → (eqb met 0 || not (eqb w first)) ≡ false → {total : ℕ}
      → total ≡ count (4 * t.rows) (shown_at t inside v) → eqb met total ≡ one_ring t inside n v
  ring_ends {first} {w} {x} {y} {met} s test {total} is = go s
    where
      all_ends : ends_of n (far_edge t inside v) ≡ total + total
      all_ends = ends_twice closed.paired four inside v ∙ rw is

      go : Ringing t inside n v first w x y met → eqb met total ≡ one_ring t inside n v
      go (inl (inl (z, _, _))) = absurd (not_both ((turns met w first).1 (inl z)) test)
      go (inl (inr g)) = absurd (not_both ((turns met w first).1 (inr g.away)) test)
      go (inr h) =
          let closes = ring_closes n (far_back t inside v) (loopless t inside v) h.way h.two h.next h.home in
          same_test (eqb met total) (one_ring t inside n v)
          (λ e. (one_ring_reads t inside n v).1 (closes.0 (omega (arith, all_ends, eqb-true met total e, h.turned))))
          (λ e. eq-eqb met total (omega (arith, all_ends, closes.1 ((one_ring_reads t inside n v).0 e), h.turned)))

-- ---- the start

module _ {t : Table} {n : ℕ} (closed : Closed t n) (four : t.corners ≡ 4) (inside : ℕ → Bool) (v : ℕ) where
  -- no skin triangle at v
  pub none_shown : count (4 * t.rows) (shown_at t inside v) ≡ 0 → true ≡ one_ring t inside n v
  none_shown z = sym ((one_ring_reads t inside n v).1 (record { two = λ a b e. absurd (none a b e); joined = λ e f p q. absurd (none e.0 e.1 p) }))
    where
      flat : (a : ℕ) → a < n → 0 ≡ count n (far_edge t inside v a)
      flat = sum_le_same n (λ _. 0) (λ a. count n (far_edge t inside v a)) (λ _ _. zero-le)
          (sum_zero n (λ _. 0) (λ _ _. refl) ∙ sym (ends_twice closed.paired four inside v ∙ rw z))

      none : (a b : ℕ) → (a < n) × (b < n) × (far_edge t inside v a b ≡ true) → ⊥
      none a b (la, lb, f) = not_both f (count_zero n (far_edge t inside v a) (sym (flat a la)) b lb)

  -- a skin triangle at v is between its row and the row across
  pub shown_edge : (r c : ℕ) → r < t.rows → c < 4 → shown t inside v r c ≡ true → SkinEdge t inside v (first_end (face_of t r c) v) r (across t r c)
  unfolding shown xor
  shown_edge r c lr lc e =
      let f = face_of t r c in
      let on = and_second (inside r) (on_skin t inside r c && in_face f v) e in
      let within = and_first (inside r) (on_skin t inside r c && in_face f v) e in
      let held = in_face_lem f v (and_second (on_skin t inside r c) (in_face f v) on) in
      let rises = face_rises t four (closed.paired.rising r lr) c lc in
      let (i, li, ni, ei) = face_corner t r c v lc held in
      let (j, lj, nj, ej) = face_corner t r c (first_end f v) lc (first_in f v) in
      let (k, lk, nk, ek) = face_corner t r c (second_end f v) lc (second_in f v) in
      let o = across_is closed.paired r c lr (subst (λ m. c < m) (sym four) lc) in
      let to = across_other t r c o in
      let three : (z : ℕ) → Side t r c z → Holds t z v × Holds t z (first_end f v) × Holds t z (second_end f v) =
      λ z h. (at z h i v li ni ei, at z h j (first_end f v) lj nj ej, at z h k (second_end f v) lk nk ek)
      in (
        second_end f v,
        record {
          differ = (split f v rises.0 rises.1 held).ends_differ;
          x_below = lr;
          y_below = subst (λ z. z < t.rows) (sym to) o.below;
          x_holds = three r (side_self t r c);
          y_holds = three (across t r c) (subst (Side t r c) (sym to) o.is);
          x_inside = within;
          y_outside = outside (inside r) (inside (across t r c)) within
              (sym (skin_between t inside closed.paired r c lr (subst (λ m. c < m) (sym four) lc)) ∙ and_first (on_skin t inside r c) (in_face f v) on);
        },
      )
    where
      at : (z : ℕ) → Side t r c z → (k u : ℕ) → k < 4 → k ≢ c → t.id r k ≡ u → Holds t z u
      at z h k u l ne is = subst (Holds t z) is (h k (subst (λ m. k < m) (sym four) l) ne)

      outside : (a b : Bool) → a ≡ true → xor a b ≡ true → b ≡ false
      outside true true _ q = absurd (not_both q refl)
      outside true false _ q = refl
      outside false b p q = absurd (not_both p refl)

  -- the last place of a skin triangle, where there is one
  module _ {total place : ℕ} (counted : total ≡ count (4 * t.rows) (shown_at t inside v)) (last : place ≡ highest (4 * t.rows) (shown_at t inside v)) (some : total ≢ 0) where
    place_shown : (place < 4 * t.rows) × (shown_at t inside v place ≡ true)
    place_shown =
        let (k, l, on) = count_some (4 * t.rows) (shown_at t inside v) (omega (arith, counted, some)) in
        rw last (highest_passes (4 * t.rows) (shown_at t inside v) k l on)

    pub start_row : place / 4 < t.rows
    start_row = row_below {m = 4} (lit< tt) t.rows place place_shown.0

    pub start_edge : SkinEdge t inside v (first_end (face_of t (place / 4) (place % 4)) v) (place / 4) (across t (place / 4) (place % 4))
    start_edge = shown_edge (place / 4) (place % 4) start_row (mod-lt place (lit< tt)) place_shown.1

-- ---- off the skin

-- a vertex that is not on the skin has one ring with nothing to check, so of a vertex below V only the ring need be asked
pub ringless_is : (t : Table) (inside : ℕ → Bool) (n v : ℕ) → v < n → ringless t inside n v ≡ not (one_ring t inside n v)
unfolding ringless
ringless_is t inside n v l =
    ⊎_elim (λ on. rw on refl) (λ off. rw ((one_ring_reads t inside n v).1 (off_skin_ring t inside n v l off)) (rw off refl)) (true_or_false (skin_vertex t inside n v))
