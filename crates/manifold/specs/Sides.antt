-- Where rows of both sides meet there is skin. Walk from one to the other by neighbours: somewhere the mark changes, and the triangle
-- between those two rows is on the skin. The vertex rule gives the walk about a vertex, and the edge rule that about an edge.
use Rattle.std.specs.Prelude.{◌≡◌, refl, ◌≢◌, Bool, ℕ, ◌≤◌, ◌<◌}
use Rattle.std.proofs.Common.{sym, ap, ◌∙◌, subst, ⊎_elim, arith, lit≤}
use Rattle.std.proofs.Math.Logic.{Ne-symm}
use Rattle.rules.specs.Table.{Table}
use Rattle.rules.specs.Laws.Truth.{same_or_not}
use Rattle.rules.specs.Laws.Count.{ExactlyTwo}
use Rattle.rules.specs.Laws.Joined.{Chain, stay, step, chain_starts}
use Rattle.rules.specs.Laws.Shape.{fourth_corner, two_others}
use Rattle.rules.specs.Reading.Rows.{Rising, one_corner, Holds}
use Rattle.rules.specs.Reading.Neighbours.{Side, Neighbours}
use Rattle.rules.specs.Reading.Closed.{Closed, vertex_rule, edge_rule}
use Rattle.rules.specs.Reading.Skin.{Different}
use Rattle.manifold.specs.Facet.{same_mark}
use Rattle.manifold.specs.Triangle.{On, Skin}

-- ---- the walk, for any number of corners

module _ (t : Table) (P : ℕ → Type 0) (inside : ℕ → Bool) where
  -- two neighbours with the property whose marks differ
  pub record Change : Type 0 where
    pub one : ℕ
    pub two : ℕ
    pub one_below : one < t.rows
    pub two_below : two < t.rows
    pub one_is : P one
    pub two_is : P two
    pub next : Neighbours t one two
    pub marks_differ : inside one ≢ inside two

  pub change : {x y : ℕ} → Chain (λ z. (z < t.rows) × P z) (Neighbours t) x y → inside x ≢ inside y → Change
  change (stay _ e) ne = absurd (ne (ap inside e))
  change (step {x = x} {y = y} m n rest) ne =
      ⊎_elim (λ e. change rest (λ e'. ne (e ∙ e')))
      (λ d. record {
        one = x;
        two = y;
        one_below = m.0;
        two_below = (chain_starts rest).0;
        one_is = m.1;
        two_is = (chain_starts rest).1;
        next = n;
        marks_differ = d;
      }) (same_mark (inside x) (inside y))

-- ---- the facet between two neighbours, for any number of corners

module _ (t : Table) where
  -- a row that holds the left-out id too holds every facet
  any_side : {x c y : ℕ} → Side t x c y → Holds t y (t.id x c) → (d : ℕ) → Side t x d y
  any_side {x} {c} {y} s h d k l _ = ⊎_elim (λ (e : k ≡ c). subst (λ (j : ℕ). Holds t y (t.id x j)) (sym e) h) (λ ne. s k l ne) (same_or_not k c)

  -- two neighbours that hold the id at corner i share a facet with that id
  facet_with : {x y i : ℕ} → 2 ≤ t.corners → Neighbours t x y → Holds t y (t.id x i) → (c : ℕ) × (c < t.corners) × (c ≢ i) × Side t x c y
  facet_with {x} {y} {i} more (_, (c, l, s)) h = ⊎_elim same (λ ne. (c, l, ne, s)) (same_or_not c i)
    where
      same : c ≡ i → (d : ℕ) × (d < t.corners) × (d ≢ i) × Side t x d y
      same e =
          let all : (d : ℕ) → Side t x d y = any_side s (subst (λ (k : ℕ). Holds t y (t.id x k)) (sym e) h) in
          ⊎_elim (λ (z : i ≡ 0). (1, more, λ (q : 1 ≡ i). omega arith, all 1)) (λ z. (0, omega arith, Ne-symm z, all 0)) (same_or_not i 0)

-- ---- the triangle between two neighbours

module _ (t : Table) (four : t.corners ≡ 4) where
  pub below_four : {c : ℕ} → c < t.corners → c < 4
  below_four {c} l = subst (λ (n : ℕ). c < n) four l

  below_corners : {c : ℕ} → c < 4 → c < t.corners
  below_corners {c} l = subst (λ (n : ℕ). c < n) (sym four) l

  -- two neighbours that hold an edge share a triangle at that edge
  shared_at_edge : {x y p q : ℕ} → Rising t x → p ≢ q → Neighbours t x y → Holds t x p × Holds t x q → Holds t y p × Holds t y q
      → (b : ℕ) × Different p q b × On t p q b x × On t p q b y
  shared_at_edge {x} {y} {p} {q} up pq (_, (c, l, s)) ((i, li, ei), (j, lj, ej)) (yp, yq) =
      ⊎_elim (λ (e : c ≡ i). left others.one others.one_below others.one_is (any_side t s (held i c e yp ei) others.one)) (λ ci.
      ⊎_elim (λ (e : c ≡ j). left others.one others.one_below others.one_is (any_side t s (held j c e yq ej) others.one))
      (λ cj. left c (below_four l) (ci, cj) s) (same_or_not c j)) (same_or_not c i)
    where
      ij : i ≢ j
      ij e = pq (sym ei ∙ ap (t.id x) e ∙ ej)

      others : ExactlyTwo 4 (λ m. (m ≢ i) × (m ≢ j))
      others = two_others i j (below_four li) (below_four lj) ij

      held : (k c : ℕ) → c ≡ k → {u : ℕ} → Holds t y u → t.id x k ≡ u → Holds t y (t.id x c)
      held k c e {u} h f = subst (Holds t y) (sym f ∙ ap (t.id x) (sym e)) h

      -- a left-out corner that is not on the edge leaves a third
      left : (d : ℕ) → d < 4 → (d ≢ i) × (d ≢ j) → Side t x d y → (b : ℕ) × Different p q b × On t p q b x × On t p q b y
      left d ld (di, dj) side =
          let m = fourth_corner i j d (below_four li) (below_four lj) ld ij (Ne-symm di) (Ne-symm dj) in
          let lm : m.one < t.corners = below_corners m.below in (
            t.id x m.one,
            (
              pq,
              λ (e : p ≡ t.id x m.one). m.is.0 (sym (one_corner t up i m.one li lm (ei ∙ e))),
              λ (e : q ≡ t.id x m.one). m.is.1 (sym (one_corner t up j m.one lj lm (ej ∙ e))),
            ),
            ((i, li, ei), ((j, lj, ej), (m.one, lm, refl))),
            (yp, (yq, side m.one lm m.is.2)),
          )

  -- two neighbours that hold a vertex share a triangle at it
  shared_at_vertex : {x y v : ℕ} → Rising t x → Neighbours t x y → Holds t x v → Holds t y v → (a : ℕ) × (b : ℕ) × Different v a b × On t v a b x × On t v a b y
  shared_at_vertex {x} {y} {v} up n (i, li, ei) yv =
      let (c, l, ci, s) = facet_with t (subst (λ (k : ℕ). 2 ≤ k) (sym four) (lit≤ tt)) n (subst (Holds t y) (sym ei) yv) in
      let o = two_others i c (below_four li) (below_four l) (Ne-symm ci) in
      let l₁ : o.one < t.corners = below_corners o.one_below in
      let l₂ : o.two < t.corners = below_corners o.two_below in (
        t.id x o.one,
        t.id x o.two,
        (
          λ (e : v ≡ t.id x o.one). o.one_is.0 (sym (one_corner t up i o.one li l₁ (ei ∙ e))),
          λ (e : v ≡ t.id x o.two). o.two_is.0 (sym (one_corner t up i o.two li l₂ (ei ∙ e))),
          λ (e : t.id x o.one ≡ t.id x o.two). o.differ (one_corner t up o.one o.two l₁ l₂ e),
        ),
        ((i, li, ei), ((o.one, l₁, refl), (o.two, l₂, refl))),
        (yv, (s o.one l₁ o.one_is.1, s o.two l₂ o.two_is.1)),
      )

  -- ---- both sides

  module _ {id_count : ℕ} (closed : Closed t id_count) (inside : ℕ → Bool) where
    -- a vertex that rows of both sides hold is on the skin
    pub skin_at_vertex : {x y v : ℕ} → x < t.rows → y < t.rows → Holds t x v → Holds t y v → inside x ≢ inside y → (a : ℕ) × (b : ℕ) × Skin t inside v a b
    skin_at_vertex {x} {y} {v} lx ly hx hy ne =
        let w = change t (λ z. Holds t z v) inside (vertex_rule closed v x y (lx, hx) (ly, hy)) ne in
        let (a, b, d, ox, oy) = shared_at_vertex (closed.paired.rising w.one w.one_below) w.next w.one_is w.two_is in
        (a, b, (d, record { one = w.one; two = w.two; one_below = w.one_below; two_below = w.two_below; one_on = ox; two_on = oy; marks_differ = w.marks_differ }))

    -- and so is an edge
    pub skin_at_edge : {x y p q : ℕ} → p ≢ q → x < t.rows → y < t.rows → Holds t x p × Holds t x q → Holds t y p × Holds t y q → inside x ≢ inside y
        → (b : ℕ) × Skin t inside p q b
    skin_at_edge {x} {y} {p} {q} pq lx ly hx hy ne =
        let w = change t (λ z. Holds t z p × Holds t z q) inside (edge_rule closed four p q pq x y (lx, hx) (ly, hy)) ne in
        let (b, d, ox, oy) = shared_at_edge (closed.paired.rising w.one w.one_below) pq w.next w.one_is w.two_is in
        (b, (d, record { one = w.one; two = w.two; one_below = w.one_below; two_below = w.two_below; one_on = ox; two_on = oy; marks_differ = w.marks_differ }))
