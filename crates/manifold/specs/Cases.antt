-- One row is flipped. At each of its four vertices the local ring lemma says what becomes of the ring; put together by f, the number of
-- its triangles on the skin, this is Lhuillier's Theorem 4.
use Rattle.std.specs.Prelude.{◌≡◌, refl, ◌⊎◌, ◌↔◌, ◌≢◌, Bool, true, ℕ, ◌<◌}
use Rattle.std.proofs.Common.{sym, ap, ◌∙◌, subst, inl, inr, ⊎_elim, arith, lit<}
use Rattle.std.proofs.Math.Logic.{Ne-symm}
use Rattle.rules.specs.Table.{Table}
use Rattle.rules.specs.Skin.{on_skin, far_edge}
use Rattle.rules.specs.Laws.Truth.{same_or_not}
use Rattle.rules.specs.Laws.Shape.{two_others}
use Rattle.rules.specs.Reading.Rows.{ids_differ, Holds}
use Rattle.rules.specs.Reading.Closed.{Closed}
use Rattle.rules.specs.Reading.Skin.{Different, skin_far}
use Rattle.manifold.specs.Facet.{FlipAt}
use Rattle.manifold.specs.Ring.{Edges, Ring, End, Corners, Flipped, one_in_free}
use Rattle.manifold.specs.Triangle.{Skin, Rings, skin_flipped, far_skin}

-- ---- the four corners of a row, in any order

pub record Four (i j k l : ℕ) : Type 0 where
  pub i_below : i < 4
  pub j_below : j < 4
  pub k_below : k < 4
  pub l_below : l < 4
  pub ij : i ≢ j
  pub ik : i ≢ k
  pub il : i ≢ l
  pub jk : j ≢ k
  pub jl : j ≢ l
  pub kl : k ≢ l
  pub only : (m : ℕ) → m < 4 → (m ≡ i) ⊎ ((m ≡ j) ⊎ ((m ≡ k) ⊎ (m ≡ l)))

-- any two corners come first in some order
pub four_from : (i j : ℕ) → i < 4 → j < 4 → i ≢ j → (k : ℕ) × (l : ℕ) × Four i j k l
four_from i j li lj ij =
    let o = two_others i j li lj ij in (
      o.one,
      o.two,
      record {
        i_below = li;
        j_below = lj;
        k_below = o.one_below;
        l_below = o.two_below;
        ij = ij;
        ik = Ne-symm o.one_is.0;
        il = Ne-symm o.two_is.0;
        jk = Ne-symm o.one_is.1;
        jl = Ne-symm o.two_is.1;
        kl = o.differ;
        only = λ m lm. ⊎_elim inl (λ mi. ⊎_elim (λ e. inr (inl e)) (λ mj. inr (inr (o.only m lm (mi, mj)))) (same_or_not m j)) (same_or_not m i);
      },
    )

-- and any one
pub four_at : (i : ℕ) → i < 4 → (j : ℕ) × (k : ℕ) × (l : ℕ) × Four i j k l
four_at i li = ⊎_elim (λ (e : i ≡ 0). from 1 (lit< tt) (λ (q : i ≡ 1). omega arith)) (λ ne. from 0 (lit< tt) ne) (same_or_not i 0)
  where
    from : (j : ℕ) → j < 4 → i ≢ j → (j : ℕ) × (k : ℕ) × (l : ℕ) × Four i j k l
    from j lj ij = let (k, l, o) = four_from i j li lj ij in (j, k, l, o)

-- two corners next to each other change places
pub swap_jk : {i j k l : ℕ} → Four i j k l → Four i k j l
swap_jk o = record {
  i_below = o.i_below;
  j_below = o.k_below;
  k_below = o.j_below;
  l_below = o.l_below;
  ij = o.ik;
  ik = o.ij;
  il = o.il;
  jk = Ne-symm o.jk;
  jl = o.kl;
  kl = o.jl;
  only = λ m lm. ⊎_elim inl (⊎_elim (λ e. inr (inr (inl e))) (⊎_elim (λ e. inr (inl e)) (λ e. inr (inr (inr e))))) (o.only m lm);
}

pub swap_ij : {i j k l : ℕ} → Four i j k l → Four j i k l
swap_ij o = record {
  i_below = o.j_below;
  j_below = o.i_below;
  k_below = o.k_below;
  l_below = o.l_below;
  ij = Ne-symm o.ij;
  ik = o.jk;
  il = o.jl;
  jk = o.ik;
  jl = o.il;
  kl = o.kl;
  only = λ m lm. ⊎_elim (λ e. inr (inl e)) (⊎_elim inl (λ e. inr (inr e))) (o.only m lm);
}

pub swap_kl : {i j k l : ℕ} → Four i j k l → Four i j l k
swap_kl o = record {
  i_below = o.i_below;
  j_below = o.j_below;
  k_below = o.l_below;
  l_below = o.k_below;
  ij = o.ij;
  ik = o.il;
  il = o.ik;
  jk = o.jl;
  jl = o.jk;
  kl = Ne-symm o.kl;
  only = λ m lm. ⊎_elim inl (⊎_elim (λ e. inr (inl e)) (⊎_elim (λ e. inr (inr (inr e))) (λ e. inr (inr (inl e))))) (o.only m lm);
}

-- what holds of each of the four holds of each corner
pub by_four : {i j k l : ℕ} → Four i j k l → (P : ℕ → Type 0) → P i → P j → P k → P l → (m : ℕ) → m < 4 → P m
by_four {i} {j} {k} {l} o P pi pj pk pl m lm =
    ⊎_elim (λ (e : m ≡ i). subst P (sym e) pi)
    (⊎_elim (λ (e : m ≡ j). subst P (sym e) pj) (⊎_elim (λ (e : m ≡ k). subst P (sym e) pk) (λ (e : m ≡ l). subst P (sym e) pl))) (o.only m lm)

module _ (t : Table) (four : t.corners ≡ 4) {id_count : ℕ} (closed : Closed t id_count) {inside after : ℕ → Bool} {r : ℕ} (flip : FlipAt inside after r) (lr : r < t.rows) where
  -- the triangle that leaves out corner c is on the skin
  abbrev pub Left : ℕ → Type 0
  Left c = on_skin t inside r c ≡ true

  -- the far edges of the vertex at corner c, before and after
  abbrev pub Before : ℕ → Edges
  Before c = Skin t inside (t.id r c)

  abbrev pub After : ℕ → Edges
  After c = Skin t after (t.id r c)

  corner : {c : ℕ} → c < 4 → c < t.corners
  corner {c} l = subst (λ (n : ℕ). c < n) (sym four) l

  differ : {i j : ℕ} → i < 4 → j < 4 → i ≢ j → t.id r i ≢ t.id r j
  differ li lj = ids_differ t (closed.paired.rising r lr) (corner li) (corner lj)

  -- ---- at the vertex of corner i

  module _ {i j k l : ℕ} (o : Four i j k l) where
    -- its three far edges in the row
    pub vertex_corners : Corners (λ a. Holds t r a × (a ≢ t.id r i)) (t.id r j) (t.id r k) (t.id r l)
    vertex_corners = record {
      first = ((j, corner o.j_below, refl), differ o.j_below o.i_below (Ne-symm o.ij));
      second = ((k, corner o.k_below, refl), differ o.k_below o.i_below (Ne-symm o.ik));
      third = ((l, corner o.l_below, refl), differ o.l_below o.i_below (Ne-symm o.il));
      xy = differ o.j_below o.k_below o.jk;
      yz = differ o.k_below o.l_below o.kl;
      zx = differ o.l_below o.j_below (Ne-symm o.jl);
      only = λ a ((m, lm, e), ne).
          ⊎_elim (λ (q : m ≡ i). absurd (ne (sym e ∙ ap (t.id r) q)))
          (⊎_elim (λ (q : m ≡ j). inl (sym e ∙ ap (t.id r) q)) (⊎_elim (λ (q : m ≡ k). inr (inl (sym e ∙ ap (t.id r) q))) (λ (q : m ≡ l). inr (inr (sym e ∙ ap (t.id r) q)))))
          (o.only m (subst (λ (n : ℕ). m < n) four lm));
    }

    pub vertex_flipped : Flipped (λ a. Holds t r a × (a ≢ t.id r i)) (Before i) (After i)
    vertex_flipped = skin_flipped t four closed flip lr (t.id r i) (i, corner o.i_below, refl)

    -- the edge between j and k is a far edge exactly if the triangle that leaves out l is on the skin
    far_left : Left l ↔ Before i (t.id r j) (t.id r k)
    far_left =
        let d : Different (t.id r i) (t.id r j) (t.id r k) = (differ o.i_below o.j_below o.ij, differ o.i_below o.k_below o.ik, differ o.j_below o.k_below o.jk) in
        let same : on_skin t inside r l ≡ far_edge t inside (t.id r i) (t.id r j) (t.id r k) =
        skin_far t four inside (record {
          first = i;
          second = j;
          third = k;
          first_below = o.i_below;
          second_below = o.j_below;
          third_below = o.k_below;
          first_stays = o.il;
          second_stays = o.jl;
          third_stays = o.kl;
          first_is = refl;
          second_is = refl;
          third_is = refl;
        }) d o.l_below
        in
        let (forth, back) = far_skin t four closed inside (t.id r i) (t.id r j) (t.id r k) in
        (λ e. forth (sym same ∙ e), λ s. same ∙ back s)

  module _ {i j k l : ℕ} (o : Four i j k l) where
    pub edge_jk : Left l ↔ Before i (t.id r j) (t.id r k)
    edge_jk = far_left o

    pub edge_kl : Left j ↔ Before i (t.id r k) (t.id r l)
    edge_kl = far_left (swap_kl (swap_jk o))

    pub edge_lj : Left k ↔ Before i (t.id r l) (t.id r j)
    edge_lj = far_left (swap_jk (swap_kl o))

    pub at_one_free : (Left j → ⊥) → (Left k → ⊥) → Ring (After i) → End (Before i) (t.id r l) → ⊥
    at_one_free nj nk ring = one_in_free (vertex_corners o) (vertex_flipped o) (λ s. nj (edge_kl.1 s)) (λ s. nk (edge_lj.1 s)) ring

  -- ---- by f

  -- f = 2: those that leave out corners p and q
  module _ {p q k l : ℕ} (o : Four p q k l) (left_p : Left p) (left_q : Left q) (not_k : Left k → ⊥) (not_l : Left l → ⊥) where
    pub needs_2 : Rings t after → End (Before p) (t.id r q) → ⊥
    needs_2 rings = at_one_free (swap_kl (swap_jk o)) not_k not_l (rings (t.id r p))
