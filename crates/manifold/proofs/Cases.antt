-- One row is flipped: what becomes of the ring at each of its four vertices, and put together by f.
use Rattle.std.specs.Prelude.{◌≡◌, ◌⊎◌, Bool, ℕ, ◌<◌}
use Rattle.std.proofs.Common.{subst, inl, inr, ⊎_elim}
use Rattle.rules.specs.Table.{Table, holds}
use Rattle.rules.specs.Skin.{on_skin}
use Rattle.rules.specs.Laws.Truth.{true_or_false, not_both}
use Rattle.rules.specs.Reading.Rows.{Holds, holds_reads}
use Rattle.rules.specs.Reading.Closed.{Closed}
use Rattle.manifold.specs.Facet.{FlipAt, flip_back}
use Rattle.manifold.specs.Ring.{Edges, Ring, Empty, empty_ring, ring_along, End, three_in, two_in, one_in, none_in}
use Rattle.manifold.specs.Triangle.{Skin, Rings, skin_swap, skin_kept}
use Rattle.manifold.specs.Cases as At
use Rattle.manifold.specs.Cases.{Four, four_at, swap_jk, swap_ij, swap_kl, by_four, vertex_corners, vertex_flipped, edge_jk, edge_kl, edge_lj}
use Rattle.manifold.proofs.Ring.{none_in_empty}

module _ (t : Table) (four : t.corners ≡ 4) {id_count : ℕ} (closed : Closed t id_count) {inside after : ℕ → Bool} {r : ℕ} (flip : FlipAt inside after r) (lr : r < t.rows) where
  abbrev Left : ℕ → Type 0
  Left c = At.Left t four closed flip lr c

  abbrev Before : ℕ → Edges
  Before c = At.Before t four closed flip lr c

  abbrev After : ℕ → Edges
  After c = At.After t four closed flip lr c

  -- ---- at the vertex of corner i

  module _ {i j k l : ℕ} (o : Four i j k l) where
    at_three : Left j → Left k → Left l → Ring (Before i) → Ring (After i)
    at_three lj lk ll ring =
        empty_ring (three_in (vertex_corners t four closed flip lr o) (vertex_flipped t four closed flip lr o)
        ((edge_jk t four closed flip lr o).0 ll) ((edge_kl t four closed flip lr o).0 lj) ((edge_lj t four closed flip lr o).0 lk) ring)

    at_two : Left j → (Left k → ⊥) → Left l → Ring (Before i) → Ring (After i)
    at_two lj nk ll ring =
        two_in (vertex_corners t four closed flip lr o) (vertex_flipped t four closed flip lr o)
        ((edge_jk t four closed flip lr o).0 ll) ((edge_kl t four closed flip lr o).0 lj) (λ s. nk ((edge_lj t four closed flip lr o).1 s)) ring

    at_one : (Left j → ⊥) → (Left k → ⊥) → Left l → (End (Before i) (t.id r l) → ⊥) → Ring (Before i) → Ring (After i)
    at_one nj nk ll off ring =
        one_in (vertex_corners t four closed flip lr o) (vertex_flipped t four closed flip lr o)
        ((edge_jk t four closed flip lr o).0 ll) (λ s. nj ((edge_kl t four closed flip lr o).1 s)) (λ s. nk ((edge_lj t four closed flip lr o).1 s)) off ring

    at_none : Empty (Before i) → Ring (After i)
    at_none = none_in (vertex_corners t four closed flip lr o) (vertex_flipped t four closed flip lr o)

    at_none_empty : (Left j → ⊥) → (Left k → ⊥) → (Left l → ⊥) → Ring (After i) → Empty (Before i)
    at_none_empty nj nk nl ring =
        none_in_empty (vertex_corners t four closed flip lr o) (vertex_flipped t four closed flip lr o)
        (λ s. nl ((edge_jk t four closed flip lr o).1 s)) (λ s. nj ((edge_kl t four closed flip lr o).1 s)) (λ s. nk ((edge_lj t four closed flip lr o).1 s)) ring

  -- ---- at every vertex

  -- where the rings at the row's own vertices are as they should be, all are
  everywhere : Rings t inside → ((i : ℕ) → i < 4 → Ring (After i)) → Rings t after
  everywhere rings own v = ⊎_elim (λ e. held ((holds_reads t r v).0 e)) (λ f. not_held (λ h. not_both ((holds_reads t r v).1 h) f)) (true_or_false (holds t r v))
    where
      held : Holds t r v → Ring (Skin t after v)
      held (c, l, e) = subst (λ (u : ℕ). Ring (Skin t after u)) e (own c (subst (λ (n : ℕ). c < n) four l))

      not_held : (Holds t r v → ⊥) → Ring (Skin t after v)
      not_held off = ring_along (skin_kept t four closed flip lr v off) (skin_kept t four closed (flip_back flip) lr v off) (rings v)

  -- ---- by f

  -- f = 0: no triangle of the row is on the skin
  module _ (none : (c : ℕ) → c < 4 → Left c → ⊥) where
    pub passes_0 : Rings t inside → ((c : ℕ) → c < 4 → Empty (Before c)) → Rings t after
    passes_0 rings free = everywhere rings (λ i li. let (j, k, l, o) = four_at i li in at_none o (free i li))

    pub needs_0 : Rings t after → (c : ℕ) → c < 4 → Empty (Before c)
    needs_0 rings c lc =
        let (j, k, l, o) = four_at c lc in
        at_none_empty o (none j o.j_below) (none k o.k_below) (none l o.l_below) (rings (t.id r c))

  -- f = 1: the one that leaves out corner p
  module _ {p j k l : ℕ} (o : Four p j k l) (left_p : Left p) (not_j : Left j → ⊥) (not_k : Left k → ⊥) (not_l : Left l → ⊥) where
    -- no far edge of another vertex ends in p, since it would be one of p
    pub passes_1 : Rings t inside → Empty (Before p) → Rings t after
    passes_1 rings free = everywhere rings (by_four o (λ i. Ring (After i)) (at_none o free)
        (other j (swap_kl (swap_jk (swap_ij o))) not_k not_l) (other k (swap_kl (swap_jk (swap_ij (swap_jk o)))) not_j not_l)
        (other l (swap_kl (swap_jk (swap_ij (swap_jk (swap_kl o))))) not_j not_k))
      where
        other : (i : ℕ) {a b : ℕ} → Four i a b p → (Left a → ⊥) → (Left b → ⊥) → Ring (After i)
        other i o' na nb = at_one o' na nb left_p (λ (b, s). free (t.id r i) b (skin_swap t inside (t.id r i) (t.id r p) b s)) (rings (t.id r i))

    pub needs_1 : Rings t after → Empty (Before p)
    needs_1 rings = at_none_empty o not_j not_k not_l (rings (t.id r p))

  -- f = 2: those that leave out corners p and q
  module _ {p q k l : ℕ} (o : Four p q k l) (left_p : Left p) (left_q : Left q) (not_k : Left k → ⊥) (not_l : Left l → ⊥) where
    -- at p and at q one edge was there, and the other must be no end; at k and l two were
    pub passes_2 : Rings t inside → (End (Before p) (t.id r q) → ⊥) → Rings t after
    passes_2 rings free = everywhere rings (by_four o (λ i. Ring (After i))
        (at_one (swap_kl (swap_jk o)) not_k not_l left_q free (rings (t.id r p)))
        (at_one (swap_kl (swap_jk (swap_ij o))) not_k not_l left_p (λ (b, s). free (b, skin_swap t inside (t.id r q) (t.id r p) b s)) (rings (t.id r q)))
        (at_two (swap_kl (swap_ij (swap_jk o))) left_p not_l left_q (rings (t.id r k)))
        (at_two (swap_kl (swap_ij (swap_jk (swap_kl o)))) left_p not_k left_q (rings (t.id r l))))

  -- f = 3 and f = 4: at most one triangle is not on the skin
  module _ (most : (a b : ℕ) → a < 4 → b < 4 → (Left a → ⊥) → (Left b → ⊥) → a ≡ b) where
    left_or_not : (c : ℕ) → Left c ⊎ (Left c → ⊥)
    left_or_not c = ⊎_elim inl (λ f. inr (λ e. not_both e f)) (true_or_false (on_skin t inside r c))

    pub passes_more : Rings t inside → Rings t after
    passes_more rings = everywhere rings (λ i li. let (j, k, l, o) = four_at i li in at i j k l o (left_or_not j) (left_or_not k) (left_or_not l))
      where
        at : (i j k l : ℕ) → Four i j k l → Left j ⊎ (Left j → ⊥) → Left k ⊎ (Left k → ⊥) → Left l ⊎ (Left l → ⊥) → Ring (After i)
        at i j k l o (inl lj) (inl lk) (inl ll) = at_three o lj lk ll (rings (t.id r i))
        at i j k l o (inr nj) (inl lk) (inl ll) = at_two (swap_jk o) lk nj ll (rings (t.id r i))
        at i j k l o (inl lj) (inr nk) (inl ll) = at_two o lj nk ll (rings (t.id r i))
        at i j k l o (inl lj) (inl lk) (inr nl) = at_two (swap_kl o) lj nl lk (rings (t.id r i))
        at i j k l o (inr nj) (inr nk) _ = absurd (o.jk (most j k o.j_below o.k_below nj nk))
        at i j k l o (inr nj) (inl lk) (inr nl) = absurd (o.jl (most j l o.j_below o.l_below nj nl))
        at i j k l o (inl lj) (inr nk) (inr nl) = absurd (o.kl (most k l o.k_below o.l_below nk nl))
