-- Skin triangles by their three ids, in any order, and what flipping a row does to them.
use Rattle.std.specs.Prelude.{◌≡◌, refl, ◌↔◌, ◌≢◌, Bool, true, false, ℕ, ◌<◌}
use Rattle.std.proofs.Common.{sym, ◌∙◌, subst, inl, inr, ⊎_elim}
use Rattle.std.proofs.Math.Logic.{Ne-symm}
use Rattle.rules.specs.Table.{Table}
use Rattle.rules.specs.Skin.{far_edge}
use Rattle.rules.specs.Laws.Truth.{not_both}
use Rattle.rules.specs.Laws.Count.{TheOther}
use Rattle.rules.specs.Reading.Rows.{Holds}
use Rattle.rules.specs.Reading.Neighbours.{Side, side_reads}
use Rattle.rules.specs.Reading.Closed.{Closed, across_is}
use Rattle.rules.specs.Reading.Skin.{as_tested, skin_reads, skin_between_sides, Different, TriangleIds, SkinTriangle, three_reads, triangle_rows, triangle_of, skin_far, far_reads}
use Rattle.manifold.specs.Facet.{FlipAt, flip_back, Split, split_flips, split_kept, split_map}
use Rattle.manifold.specs.Ring.{Edges, Ring, Flipped}

module _ (t : Table) where
  -- row z holds the three ids
  abbrev pub On : ℕ → ℕ → ℕ → ℕ → Type 0
  On v a b z = Holds t z v × (Holds t z a × Holds t z b)

  -- v, a and b are the ids of a skin triangle: two rows that hold them have different marks. So a b is a far edge of v, opposite it.
  abbrev pub Skin : (ℕ → Bool) → ℕ → Edges
  Skin inside v a b = Different v a b × Split t.rows (On v a b) inside

  -- each id has one ring: each vertex is good
  abbrev pub Rings : (ℕ → Bool) → Type 0
  Rings inside = (v : ℕ) → Ring (Skin inside v)

  -- the ids may be named in any order
  pub skin_back : (inside : ℕ → Bool) (v a b : ℕ) → Skin inside v a b → Skin inside v b a
  skin_back inside v a b ((va, vb, ab), s) = ((vb, va, Ne-symm ab), split_map (λ z (h, (k, m)). (h, (m, k))) s)

  pub skin_swap : (inside : ℕ → Bool) (v a b : ℕ) → Skin inside v a b → Skin inside a v b
  skin_swap inside v a b ((va, vb, ab), s) = ((Ne-symm va, ab, vb), split_map (λ z (h, (k, m)). (k, (h, m))) s)

  module _ (four : t.corners ≡ 4) {id_count : ℕ} (closed : Closed t id_count) where
    on_side : {r c v a b : ℕ} → TriangleIds t r c v a b → Different v a b → c < 4 → (z : ℕ) → Side t r c z ↔ On v a b z
    on_side {r} {c} {v} {a} {b} x d l z = (
      λ h. let (p, q, m) = (three_reads t four v a b z).0 (sym (triangle_rows t four x d l z) ∙ (side_reads t r c z).1 h) in (p, (q, m)),
      λ (p, (q, m)). (side_reads t r c z).0 (triangle_rows t four x d l z ∙ (three_reads t four v a b z).1 (p, q, m)),
    )

    -- a triangle is in exactly two rows
    the_other_row : {v a b : ℕ} → Different v a b → (r : ℕ) → r < t.rows → On v a b r → TheOther t.rows (On v a b) r
    the_other_row {v} {a} {b} d r l (p, (q, m)) =
        let (c, lc, x) = triangle_of t four r v a b d p q m in
        let o = across_is closed.paired r c l (subst (λ (n : ℕ). c < n) (sym four) lc) in
        record {
          other = o.other;
          below = o.below;
          is = (on_side x d lc o.other).0 o.is;
          differs = o.differs;
          only = λ j n h ne. o.only j n ((on_side x d lc j).1 h) ne;
        }

    -- ---- what flipping row r does

    module _ {inside after : ℕ → Bool} {r : ℕ} (flip : FlipAt inside after r) (l : r < t.rows) where
      -- at an id that row r does not hold, nothing
      pub skin_kept : (v : ℕ) → (Holds t r v → ⊥) → (a b : ℕ) → Skin inside v a b → Skin after v a b
      skin_kept v off a b (d, s) = (d, split_kept t.rows (On v a b) flip (λ (h, _). off h) s)

      -- at one that it holds, its three far edges are flipped
      pub skin_flipped : (v : ℕ) → Holds t r v → Flipped (λ a. Holds t r a × (a ≢ v)) (Skin inside v) (Skin after v)
      skin_flipped v h = record {
        back = λ a b. skin_back inside v a b;
        back' = λ a b. skin_back after v a b;
        apart = λ a b ((_, _, ab), _). ab;
        apart' = λ a b ((_, _, ab), _). ab;
        between = λ a b (ha, av) (hb, bv) ab.
            let d : Different v a b = (Ne-symm av, Ne-symm bv, ab) in
            ⊎_elim (λ (s, n). inl ((d, s), λ (_, s'). n s')) (λ (s', n). inr ((d, s'), λ (_, s). n s))
            (split_flips t.rows (On v a b) r l (h, (ha, hb)) (the_other_row d r l (h, (ha, hb))) flip);
        elsewhere = λ a b off (d, s). (d, split_kept t.rows (On v a b) flip (here a b off d) s);
        elsewhere' = λ a b off (d, s). (d, split_kept t.rows (On v a b) (flip_back flip) (here a b off d) s);
      }
        where
          here : (a b : ℕ) → (Holds t r a × (a ≢ v) → Holds t r b × (b ≢ v) → ⊥) → Different v a b → On v a b r → ⊥
          here a b off (va, vb, _) (_, (ha, hb)) = off (ha, Ne-symm va) (hb, Ne-symm vb)

    -- ---- the definitions of `rules`

    -- a far edge is one opposite v in a skin triangle
    pub far_skin : (inside : ℕ → Bool) (v a b : ℕ) → (far_edge t inside v a b ≡ true) ↔ Skin inside v a b
    far_skin inside v a b = (λ e. forth ((far_reads t four inside (as_tested inside) v a b).0 e), λ (d, s). back d s)
      where
        corner_below : {c : ℕ} → c < 4 → c < t.corners
        corner_below {c} l = subst (λ (n : ℕ). c < n) (sym four) l

        forth : SkinTriangle t (λ s. inside s ≡ true) v a b → Skin inside v a b
        forth x =
            let on = (skin_reads t inside (as_tested inside) x.row x.corner).1 x.on_skin_lem in
            let s = (skin_between_sides t inside (as_tested inside) closed.paired x.row x.corner x.row_below (corner_below x.corner_below)).0 on in (
              x.different,
              record {
                one = s.in_row;
                two = s.out_row;
                one_below = s.in_below;
                two_below = s.out_below;
                one_on = (on_side x.ids x.different x.corner_below s.in_row).0 s.in_holds;
                two_on = (on_side x.ids x.different x.corner_below s.out_row).0 s.out_holds;
                marks_differ = λ (e : inside s.in_row ≡ inside s.out_row). s.is_outside (sym e ∙ s.is_inside);
              },
            )

        back : Different v a b → Split t.rows (On v a b) inside → far_edge t inside v a b ≡ true
        back d s = go (inside s.one) (inside s.two) refl refl
          where
            at : (x y : ℕ) → x < t.rows → y < t.rows → On v a b x → On v a b y → inside x ≡ true → inside y ≡ false → far_edge t inside v a b ≡ true
            at x y lx ly (p, (q, m)) hy ix iy =
                let (c, lc, ids) = triangle_of t four x v a b d p q m in
                sym (skin_far t four inside ids d lc) ∙ (skin_between_sides t inside (as_tested inside) closed.paired x c lx (corner_below lc)).1 (record {
                  in_row = x;
                  out_row = y;
                  in_below = lx;
                  out_below = ly;
                  in_holds = (on_side ids d lc x).1 (p, (q, m));
                  out_holds = (on_side ids d lc y).1 hy;
                  is_inside = ix;
                  is_outside = λ i. not_both i iy;
                })

            go : (i j : Bool) → inside s.one ≡ i → inside s.two ≡ j → far_edge t inside v a b ≡ true
            go true true e g = absurd (s.marks_differ (e ∙ sym g))
            go true false e g = at s.one s.two s.one_below s.two_below s.one_on s.two_on e g
            go false true e g = at s.two s.one s.two_below s.one_below s.two_on s.one_on g e
            go false false e g = absurd (s.marks_differ (e ∙ sym g))

    -- ids of skin triangles are below V
    pub ends_below : (inside : ℕ → Bool) (v a b : ℕ) → Skin inside v a b → (v < id_count) × (a < id_count) × (b < id_count)
    ends_below inside v a b (_, s) =
        let ((i, li, ei), ((j, lj, ej), (k, lk, ek))) = s.one_on in (
          subst (λ (u : ℕ). u < id_count) ei (closed.paired.below s.one s.one_below i li),
          subst (λ (u : ℕ). u < id_count) ej (closed.paired.below s.one s.one_below j lj),
          subst (λ (u : ℕ). u < id_count) ek (closed.paired.below s.one s.one_below k lk),
        )
