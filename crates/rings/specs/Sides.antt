-- A skin triangle is between an inside row and an outside row. About the edge of v and w one turns from one skin triangle to the next,
-- through the inside rows and through the outside rows. Where both ways come to the same triangle there are exactly two.
use Rattle.std.specs.Prelude.{◌≡◌, refl, ◌⊎◌, ◌≢◌, Bool, true, false, not, ℕ, ◌<◌}
use Rattle.std.proofs.Math.Path.{sym, ap}
use Rattle.std.proofs.Common.{◌∙◌, subst}
use Rattle.std.proofs.Math.Logic.{inl, inr, ⊎_elim, Ne-symm}
use Rattle.rules.specs.Table.{Table, across}
use Rattle.rules.specs.Skin.{far_edge}
use Rattle.rules.specs.Laws.Truth.{not_both, is_false, same_or_not}
use Rattle.rules.specs.Laws.Count.{ExactlyOne, ExactlyTwo, the_other}
use Rattle.rules.specs.Laws.Joined.{chain_passes}
use Rattle.rules.specs.Laws.Shape.{fourth_corner}
use Rattle.rules.specs.Reading.Rows.{Holds}
use Rattle.rules.specs.Reading.Neighbours.{Side, side_reads}
use Rattle.rules.specs.Reading.Closed.{Paired, Closed, across_is, edge_rule}
use Rattle.rules.specs.Reading.Moves.{At, both_reads, leaves_reads}
use Rattle.rules.specs.Reading.Apart.{one_row}
use Rattle.rules.specs.Reading.Skin.{as_tested, Different, TriangleIds, three_reads, triangle_rows, triangle_of, skin_reads, far_reads, skin_between_sides}
use Rattle.round.specs.Trail.{Behind, walk_on}
use Rattle.round.specs.Edge.{Near, way_on, leads_reads, near_at, near_back, near_side, neighbours_near, way_leads, Turned, turn_behind}

abbrev HoldThem : Table → ℕ → ℕ → ℕ → ℕ → Type 0
HoldThem t v w u z = Holds t z v × Holds t z w × Holds t z u

-- the triangle of v, w and u is between the inside row x and the outside row y
pub record Between (t : Table) (inside : ℕ → Bool) (v w u x y : ℕ) : Type 0 where
  pub differ : Different v w u
  pub x_below : x < t.rows
  pub y_below : y < t.rows
  pub x_holds : HoldThem t v w u x
  pub y_holds : HoldThem t v w u y
  pub x_inside : inside x ≡ true
  pub y_outside : inside y ≡ false

reordered : {t : Table} {inside : ℕ → Bool} {v w u x y v' w' u' : ℕ} → Different v' w' u' → ((z : ℕ) → HoldThem t v w u z → HoldThem t v' w' u' z)
    → Between t inside v w u x y → Between t inside v' w' u' x y
reordered {x = x} {y = y} differ hold p = record {
  differ = differ;
  x_below = p.x_below;
  y_below = p.y_below;
  x_holds = hold x p.x_holds;
  y_holds = hold y p.y_holds;
  x_inside = p.x_inside;
  y_outside = p.y_outside;
}

-- the same triangle, seen from its other end
pub seen_back : {t : Table} {inside : ℕ → Bool} {v w u x y : ℕ} → Between t inside v w u x y → Between t inside v u w x y
seen_back p = let (vw, vu, wu) = p.differ in reordered (vu, vw, Ne-symm wu) (λ z (hv, hw, hu). (hv, hu, hw)) p

-- and from w in the place of v
swapped : {t : Table} {inside : ℕ → Bool} {v w u x y : ℕ} → Between t inside v w u x y → Between t inside w v u x y
swapped p = let (vw, vu, wu) = p.differ in reordered (Ne-symm vw, wu, vu) (λ z (hv, hw, hu). (hw, hv, hu)) p

sides_differ : (inside : ℕ → Bool) {x y : ℕ} → inside x ≡ true → inside y ≡ false → x ≢ y
sides_differ inside i o e = not_both i (ap inside e ∙ o)

module _ {t : Table} {id_count : ℕ} (paired : Paired t id_count) (four : t.corners ≡ 4) {inside : ℕ → Bool} {v w : ℕ} where
  module _ {u x y : ℕ} (p : Between t inside v w u x y) where
    corner : (c : ℕ) × (c < 4) × TriangleIds t x c v w u
    corner = triangle_of t four x v w u p.differ p.x_holds.0 p.x_holds.1 p.x_holds.2

    corner_below : corner.0 < t.corners
    corner_below = subst (λ n. corner.0 < n) (sym four) corner.1

    held : (z : ℕ) → HoldThem t v w u z → Side t x corner.0 z
    held z h = (side_reads t x corner.0 z).0 (triangle_rows t four corner.2 p.differ corner.1 z ∙ (three_reads t four v w u z).1 h)

    pub between_near : Near t v w x y
    between_near =
        neighbours_near paired four p.differ.0 x y (p.x_below, (both_reads t v w x).1 (p.x_holds.0, p.x_holds.1)) (p.y_below, (both_reads t v w y).1 (p.y_holds.0, p.y_holds.1))
        (sides_differ inside p.x_inside p.y_outside, (corner.0, corner_below, held y p.y_holds))

    pub between_far : far_edge t inside v w u ≡ true
    between_far = (far_reads t four inside (as_tested inside) v w u).1 (record {
      row = x;
      corner = corner.0;
      row_below = p.x_below;
      corner_below = corner.1;
      on_skin_lem = (skin_reads t inside (as_tested inside) x corner.0).0 ((skin_between_sides t inside (as_tested inside) paired x corner.0 p.x_below corner_below).1 (record {
        in_row = x;
        out_row = y;
        in_below = p.x_below;
        out_below = p.y_below;
        in_holds = held x p.x_holds;
        out_holds = held y p.y_holds;
        is_inside = p.x_inside;
        is_outside = λ i. not_both i p.y_outside;
      }));
      different = p.differ;
      ids = corner.2;
    })

    -- the ids name the rows
    between_rows : {x' y' : ℕ} → Between t inside v w u x' y' → (x ≡ x') × (y ≡ y')
    between_rows {x'} {y'} q =
        let o = across_is paired x corner.0 p.x_below corner_below in
        let out : (z : ℕ) → z < t.rows → inside z ≡ false → HoldThem t v w u z → z ≡ o.other =
        λ z l f h. o.only z l (held z h) (λ (e : z ≡ x). sides_differ inside p.x_inside f (sym e))
        in (
          ⊎_elim (λ (e : x' ≡ x). sym e) (λ ne. absurd (sides_differ inside q.x_inside p.y_outside
              (o.only x' q.x_below (held x' q.x_holds) ne ∙ sym (out y p.y_below p.y_outside p.y_holds)))) (same_or_not x' x),
          out y p.y_below p.y_outside p.y_holds ∙ sym (out y' q.y_below q.y_outside q.y_holds),
        )

    -- and the rows name the ids: a row that held two thirds would be the other row
    between_third : {u' : ℕ} → Between t inside v w u' x y → u ≡ u'
    between_third {u'} q =
        ⊎_elim (λ e. e) (λ (ne : u ≢ u'). absurd (sides_differ inside p.x_inside p.y_outside (one_row paired four x y p.x_below p.y_below (whole ne)))) (same_or_not u u')
      where
        ids : TriangleIds t x corner.0 v w u
        ids = corner.2

        left : ExactlyOne 4 (λ m. (m ≢ ids.first) × (m ≢ ids.second) × (m ≢ ids.third))
        left =
            fourth_corner ids.first ids.second ids.third ids.first_below ids.second_below ids.third_below
            (λ (e : ids.first ≡ ids.second). p.differ.0 (sym ids.first_is ∙ ap (t.id x) e ∙ ids.second_is))
            (λ (e : ids.first ≡ ids.third). p.differ.1 (sym ids.first_is ∙ ap (t.id x) e ∙ ids.third_is))
            (λ (e : ids.second ≡ ids.third). p.differ.2 (sym ids.second_is ∙ ap (t.id x) e ∙ ids.third_is))

        whole : u ≢ u' → (k : ℕ) → k < 4 → Holds t y (t.id x k)
        whole ne k l = ⊎_elim (λ (e : k ≡ corner.0). at_left e) (λ other. held y p.y_holds k (subst (λ n. k < n) (sym four) l) other) (same_or_not k corner.0)
          where
            at_left : k ≡ corner.0 → Holds t y (t.id x k)
            at_left e =
                let (m, lm, is) = q.x_holds.2 in
                let there : m ≡ left.one =
                left.only m (subst (λ n. m < n) four lm) (
                  λ (f : m ≡ ids.first). q.differ.1 (sym ids.first_is ∙ ap (t.id x) (sym f) ∙ is),
                  λ (f : m ≡ ids.second). q.differ.2 (sym ids.second_is ∙ ap (t.id x) (sym f) ∙ is),
                  λ (f : m ≡ ids.third). ne (sym ids.third_is ∙ ap (t.id x) (sym f) ∙ is),
                )
                in
                let here : k ≡ left.one = e ∙ left.only corner.0 corner.1 (Ne-symm ids.first_stays, Ne-symm ids.second_stays, Ne-symm ids.third_stays) in
                subst (Holds t y) (sym is ∙ ap (t.id x) (there ∙ sym here)) q.y_holds.2

  -- each far edge has its rows
  pub far_between : (u : ℕ) → far_edge t inside v w u ≡ true → (x : ℕ) × (y : ℕ) × Between t inside v w u x y
  far_between u e =
      let s = (far_reads t four inside (as_tested inside) v w u).0 e in
      let b = (skin_between_sides t inside (as_tested inside) paired s.row s.corner s.row_below (subst (λ n. s.corner < n) (sym four) s.corner_below)).0
      ((skin_reads t inside (as_tested inside) s.row s.corner).1 s.on_skin_lem)
      in
      let three : (z : ℕ) → Side t s.row s.corner z → HoldThem t v w u z =
      λ z h.
      (three_reads t four v w u z).0 (sym (triangle_rows t four s.ids s.different s.corner_below z) ∙ (side_reads t s.row s.corner z).1 h)
      in (
        b.in_row,
        b.out_row,
        record {
          differ = s.different;
          x_below = b.in_below;
          y_below = b.out_below;
          x_holds = three b.in_row b.in_holds;
          y_holds = three b.out_row b.out_holds;
          x_inside = b.is_inside;
          y_outside = is_false (inside b.out_row) b.is_outside;
        },
      )

  module _ (edge : v ≢ w) where
    -- of two rows about the edge, one inside and one outside, the corner of the one that leads away from the other has the third id
    third_between : {x y : ℕ} → Near t v w x y → inside x ≡ true → inside y ≡ false → Between t inside v w (t.id x (way_on t v w y x)) x y
    third_between {x} {y} near i o =
        let d = way_on t v w y x in
        let (l, on) = way_leads paired four edge near in
        let (way, away) = (leads_reads t v w y x d).0 on in
        let (nv, nw) = (leaves_reads t v w x d).0 way in
        let (hv, hw) = (both_reads t v w x).0 near.0.1 in
        let at_y = near_at paired four edge x y near in
        let (kv, kw) = (both_reads t v w y).0 at_y.1 in
        let m = subst (λ n. d < n) (sym four) l in
        record {
          differ = (edge, Ne-symm nv, Ne-symm nw);
          x_below = near.0.0;
          y_below = at_y.0;
          x_holds = (hv, hw, (d, m, refl));
          y_holds = (kv, kw, (near_side paired four edge x y near).1 d m (λ (e : d ≡ near.1.0). away (ap (across t x) e ∙ near.1.3)));
          x_inside = i;
          y_outside = o;
        }

    -- ---- a turn through the rows of one side, and where it stops

    module _ {first second at y : ℕ} (start : Near t v w second first) (turned : Turned t inside v w first second at y) where
      passed : Behind t.rows (Near t v w) (λ z. inside z ≡ inside second) first second turned.going.from at turned.k
      passed = turn_behind paired four edge inside start turned.going

      stop_side : inside at ≡ inside second
      stop_side = walk_on turned.going.walk refl

      next_side : {b : Bool} → inside second ≡ b → inside first ≡ not b → inside y ≡ not b
      next_side {b} e f = ⊎_elim (λ (h : y ≡ first). ap inside h ∙ f) (λ ne. unlike b (inside y) (λ (q : inside y ≡ b). ne (q ∙ sym e))) turned.stops
        where
          unlike : (b c : Bool) → (c ≡ b → ⊥) → c ≡ not b
          unlike true true ne = absurd (ne refl)
          unlike true false ne = refl
          unlike false true ne = refl
          unlike false false ne = absurd (ne refl)

      moved : at ≡ second → y ≢ first
      moved e h = turned.going.next.on (h ∙ sym (passed.trail.once e))

      -- from each row that was passed but the first one comes to another, or to the next
      passed_on : (z u : ℕ) → passed.seen z ≡ true → z ≢ first → Near t v w z u → (passed.seen u ≡ true) ⊎ ((z ≡ at) × (u ≡ y))
      passed_on z u s nf near = go (same_or_not z at)
        where
          go : (z ≡ at) ⊎ (z ≢ at) → (passed.seen u ≡ true) ⊎ ((z ≡ at) × (u ≡ y))
          go (inl e) =
              ⊎_elim (λ (q : u ≡ turned.going.from). inl (ap passed.seen q ∙ passed.trail.from_seen))
              (λ ne. inr (e, turned.going.next.only u (subst (λ i. Near t v w i u) e near) ne)) (same_or_not u turned.going.from)
          go (inr ne) = inl (passed.trail.inner z u s nf ne near)

    -- ---- from the rows x y through the inside rows to p q, and through the outside rows to q' p'

    module _ {u x y p q : ℕ} (here : Between t inside v w u x y) (within : Turned t inside v w y x p q) where
      -- the triangle that one comes to
      pub turned_between : Between t inside v w (t.id p (way_on t v w q p)) p q
      turned_between =
          let near = between_near here in
          third_between within.going.next.near (stop_side near within ∙ here.x_inside) (next_side near within here.x_inside here.y_outside)

      pub turned_new : {u' : ℕ} → Between t inside v w u' p q → u' ≢ u
      turned_new {u'} there e = let (px, qy) = between_rows (subst (λ i. Between t inside v w i p q) e there) here in moved (between_near here) within px qy

    module _ {u x y p q p' q' : ℕ} (here : Between t inside v w u x y) (within : Turned t inside v w y x p q) (without : Turned t inside v w x y q' p') where
      near : Near t v w x y
      near = between_near here

      back : Near t v w y x
      back = near_back paired four edge x y near

      -- where the two ways come to different triangles, there are three or more
      pub more_than_two : {n : ℕ} → ((z : ℕ) → far_edge t inside v w z ≡ true → z < n) → {u' : ℕ} → Between t inside v w u' p q → ((p' ≡ p) × (q' ≡ q) → ⊥)
          → ExactlyTwo n (λ z. far_edge t inside v w z ≡ true) → ⊥
      more_than_two below {u'} there unlike two =
          let third = third_between (near_back paired four edge q' p' without.going.next.near) (next_side back without here.y_outside here.x_inside) (stop_side back without ∙ here.y_outside) in
          let u'' = t.id p' (way_on t v w q' p') in
          let o = the_other two u (below u (between_far here)) (between_far here) in
          let same : u'' ≡ u' =
          o.only u'' (below u'' (between_far third)) (between_far third) (λ (e : u'' ≡ u).
          let (px, qy) = between_rows (subst (λ i. Between t inside v w i p' q') e third) here in moved back without qy px)
          ∙ sym (o.only u' (below u' (between_far there)) (between_far there) (turned_new here within there))
          in
          unlike (between_rows (subst (λ i. Between t inside v w i p' q') same third) there)

      module _ (closed : Closed t id_count) (same : (p' ≡ p) × (q' ≡ q)) where
        abbrev inner : Behind t.rows (Near t v w) (λ z. inside z ≡ inside x) y x within.going.from p within.k
        inner = passed near within

        abbrev outer : Behind t.rows (Near t v w) (λ z. inside z ≡ inside y) x y without.going.from q' without.k
        outer = passed back without

        Seen : ℕ → Type 0
        Seen z = (inner.seen z ≡ true) ⊎ (outer.seen z ≡ true)

        in_passes : (z i : ℕ) → inner.seen z ≡ true → z ≢ y → Near t v w z i → Seen i
        unfolding Seen
        in_passes z i s ne n = ⊎_elim inl (λ (_, e). inr (ap outer.seen (e ∙ sym same.1) ∙ outer.trail.at_seen)) (passed_on near within z i s ne n)

        out_passes : (z i : ℕ) → outer.seen z ≡ true → z ≢ x → Near t v w z i → Seen i
        unfolding Seen
        out_passes z i s ne n = ⊎_elim inr (λ (_, e). inl (ap inner.seen (e ∙ same.0) ∙ inner.trail.at_seen)) (passed_on back without z i s ne n)

        passes : (z i : ℕ) → Near t v w z i → Seen z → Seen i
        unfolding Seen
        passes z i n (inl s) =
            ⊎_elim (λ (e : z ≡ y). out_passes z i (ap outer.seen e ∙ outer.trail.second_seen) (λ (f : z ≡ x). sides_differ inside here.x_inside here.y_outside (sym f ∙ e)) n)
            (λ ne. in_passes z i s ne n) (same_or_not z y)
        passes z i n (inr s) =
            ⊎_elim (λ (e : z ≡ x). in_passes z i (ap inner.seen e ∙ inner.trail.second_seen) (λ (f : z ≡ y). sides_differ inside here.x_inside here.y_outside (sym e ∙ f)) n)
            (λ ne. out_passes z i s ne n) (same_or_not z x)

        -- the rows that hold the edge are joined, so both ways together pass them all
        all_seen : (z : ℕ) → At t v w z → Seen z
        unfolding Seen
        all_seen z at_z =
            let at_x = near.0 in
            chain_passes Seen (λ i j (li, hi) (lj, hj) n s. passes i j (neighbours_near paired four edge i j (li, (both_reads t v w i).1 hi) (lj, (both_reads t v w j).1 hj) n) s)
            (edge_rule closed four v w edge x z (at_x.0, (both_reads t v w x).0 at_x.1) (at_z.0, (both_reads t v w z).0 at_z.1)) (inl inner.trail.second_seen)

        -- an inside row was passed on the way through the inside rows
        seen_inside : (z : ℕ) → inside z ≡ true → Seen z → inner.seen z ≡ true
        unfolding Seen
        seen_inside z i (inl s) = s
        seen_inside z i (inr s) =
            ⊎_elim (λ (e : z ≡ x). ap inner.seen e ∙ inner.trail.second_seen)
            (λ ne. absurd (not_both i (outer.all_on z s ne ∙ here.y_outside))) (same_or_not z x)

        pub two_between : {u' : ℕ} → Between t inside v w u' p q → (z : ℕ) → far_edge t inside v w z ≡ true → (z ≡ u) ⊎ (z ≡ u')
        two_between {u'} there z far = let (r, s, pair) = far_between z far in at r s pair
          where
            at : (r s : ℕ) → Between t inside v w z r s → (z ≡ u) ⊎ (z ≡ u')
            at r s pair = go (passed_on near within r s (seen_inside r pair.x_inside (all_seen r across_it.0)) (λ (e : r ≡ y). sides_differ inside pair.x_inside here.y_outside e) across_it)
              where
                across_it : Near t v w r s
                across_it = between_near pair

                is_here : r ≡ x → s ≡ y → (z ≡ u) ⊎ (z ≡ u')
                is_here e f = inl (between_third (subst (λ i. Between t inside v w z x i) f (subst (λ i. Between t inside v w z i s) e pair)) here)

                is_there : r ≡ p → s ≡ q → (z ≡ u) ⊎ (z ≡ u')
                is_there e f = inr (between_third (subst (λ i. Between t inside v w z p i) f (subst (λ i. Between t inside v w z i s) e pair)) there)

                from_y : s ≡ y → (z ≡ u) ⊎ (z ≡ u')
                from_y f =
                    ⊎_elim (λ on. is_here (⊎_elim (λ (e : r ≡ x). e) (λ ne. absurd (not_both pair.x_inside (outer.all_on r on ne ∙ here.y_outside))) (same_or_not r x)) f)
                    (λ (yq, rp). is_there (rp ∙ same.0) (f ∙ yq ∙ same.1))
                    (passed_on back without y r outer.trail.second_seen (λ (e : y ≡ x). sides_differ inside here.x_inside here.y_outside (sym e)) (subst (λ i. Near t v w i r) f (near_back paired four edge r s across_it)))

                go : (inner.seen s ≡ true) ⊎ ((r ≡ p) × (s ≡ q)) → (z ≡ u) ⊎ (z ≡ u')
                go (inl on) = from_y (⊎_elim (λ (f : s ≡ y). f) (λ ne. absurd (not_both (inner.all_on s on ne ∙ here.x_inside) pair.y_outside)) (same_or_not s y))
                go (inr (e, f)) = is_there e f

-- w lies on the far edges of v that v lies on of w
pub far_swapped : {t : Table} {id_count : ℕ} → Paired t id_count → t.corners ≡ 4 → (inside : ℕ → Bool) (v w u : ℕ) → far_edge t inside v w u ≡ true → far_edge t inside w v u ≡ true
far_swapped paired four inside v w u e = let (_, _, p) = far_between paired four {inside = inside} {v = v} {w = w} u e in between_far paired four (swapped p)
