-- One ring: each end lies on exactly two far edges, and any two far edges are joined through common ends.
use Rattle.std.specs.Prelude.{◌≡◌, refl, ◌⊎◌, ◌↔◌, true, false, ◌&&◌, ◌||◌}
use Rattle.std.proofs.Common.{sym, ◌∙◌, subst, inl, inr, ⊎_elim, eqb-true, eq-eqb}
use Rattle.std.proofs.Math.Path.{ap}
use Rattle.std.proofs.Math.Bool.{Bool, not}
use Prim.Native.Nat.{ℕ, ◌<◌}
use Rattle.std.proofs.Math.Dec.{eqb}
use Rattle.std.proofs.lemmas.Bool.{not-true}
use Rattle.rules.specs.Below.{any, all, count, pick}
use Rattle.rules.specs.Joined.{connected}
use Rattle.rules.specs.Table.{Table}
use Rattle.rules.specs.Skin.{far_edge, far_end, one_ring, skin_vertex}
use Rattle.rules.specs.Laws.Truth.{true_or_false, not_both, and_first, and_second, and_both, or_either, or_first, or_second}
use Rattle.rules.specs.Laws.Below.{any_here, any_some, any_none, all_each, each_all}
use Rattle.rules.specs.Laws.Count.{ExactlyTwo, two_map, count_two, two_count}
use Rattle.rules.specs.Laws.Joined.{Chain, stay, step, chain_starts, chain_map, Picked, picked_chain, chain_picked}
use Rattle.rules.specs.Reading.Skin.{SkinVertex, SkinTriangle, far_reads, far_back}

-- ---- edges between numbers below n

module _ (n : ℕ) (Far : ℕ → ℕ → Type 0) where
  abbrev pub Edge : ℕ × ℕ → Type 0
  Edge e = (e.0 < n) × (e.1 < n) × Far e.0 e.1

  -- two edges have an end in common
  abbrev pub Meet : ℕ × ℕ → ℕ × ℕ → Type 0
  Meet e f = ((e.0 ≡ f.0) ⊎ (e.0 ≡ f.1)) ⊎ ((e.1 ≡ f.0) ⊎ (e.1 ≡ f.1))

  pub record OneRing : Type 0 where
    -- each end lies on exactly two of them
    pub two : (a b : ℕ) → Edge (a, b) → ExactlyTwo n (Far a)
    -- any two are joined through common ends
    pub joined : (e f : ℕ × ℕ) → Edge e → Edge f → Chain Edge Meet e f

  -- a is an end
  abbrev pub End : ℕ → Type 0
  End a = (b : ℕ) × Edge (a, b)

  -- any two ends are joined by a chain of edges
  abbrev pub EndsJoined : Type 0
  EndsJoined = (a c : ℕ) → End a → End c → Chain End Far a c

  module _ (back : (a b : ℕ) → Far a b → Far b a) where
    edge_back : {a b : ℕ} → Edge (a, b) → Edge (b, a)
    edge_back {a} {b} (la, lb, f) = (lb, la, back a b f)

    -- a chain of ends is one of edges
    ends_edges : {a c : ℕ} → Chain End Far a c → (b d : ℕ) → Edge (a, b) → Edge (c, d) → Chain Edge Meet (a, b) (c, d)
    ends_edges (stay {x} {y} _ e) b d p q = step p (inl (inl e)) (stay q refl)
    ends_edges (step {x} {y} _ f c) b d p q =
        let next : Edge (y, x) = ((chain_starts c).1.0, p.0, back x y f) in
        step p (inl (inr refl)) (ends_edges c x d next q)

    -- and the other way round
    edges_ends : {e f : ℕ × ℕ} → Chain Edge Meet e f → Chain End Far e.0 f.0
    edges_ends (stay {x} {y} m e) = stay (x.1, m) (ap (λ (p : ℕ × ℕ). p.0) e)
    edges_ends (step {x} {y} {z} m s c) = go s (chain_starts c) (edges_ends c)
      where
        -- from either end of the next edge
        first : (a : ℕ) → a ≡ y.0 → Chain End Far y.0 z.0 → Chain End Far a z.0
        first a e d = subst (λ (b : ℕ). Chain End Far b z.0) (sym e) d

        second : (a : ℕ) → a ≡ y.1 → Edge y → Chain End Far y.0 z.0 → Chain End Far a z.0
        second a e p d = subst (λ (b : ℕ). Chain End Far b z.0) (sym e) (step (y.0, edge_back p) (back y.0 y.1 p.2) d)

        go : Meet x y → Edge y → Chain End Far y.0 z.0 → Chain End Far x.0 z.0
        go (inl (inl e)) p d = first x.0 e d
        go (inl (inr e)) p d = second x.0 e p d
        go (inr (inl e)) p d = step (x.1, m) m.2 (first x.1 e d)
        go (inr (inr e)) p d = step (x.1, m) m.2 (second x.1 e p d)

    pub ends_joined : OneRing → EndsJoined
    ends_joined ring a c (b, p) (d, q) = edges_ends (ring.joined (a, b) (c, d) p q)

    pub joined_ends : ((a b : ℕ) → Edge (a, b) → ExactlyTwo n (Far a)) → EndsJoined → OneRing
    joined_ends two joined = record {
      two = two;
      joined = λ e f p q. ends_edges (joined e.0 f.0 (e.1, p) (f.1, q)) e.1 f.1 p q;
    }

-- the same edges, the same ring
pub ring_map : {n : ℕ} {F G : ℕ → ℕ → Type 0} → ((a b : ℕ) → F a b → G a b) → ((a b : ℕ) → G a b → F a b) → OneRing n F → OneRing n G
ring_map {n} {F} {G} forth back ring = record {
  two = λ a b (la, lb, g). two_map (forth a) (back a) (ring.two a b (la, lb, back a b g));
  joined = λ e f (la, lb, g) (lc, ld, h).
      chain_map (λ x (l, m, k). (l, m, forth x.0 x.1 k)) (λ x y _ _ m. m) (ring.joined e f (la, lb, back e.0 e.1 g) (lc, ld, back f.0 f.1 h));
}

-- ---- the computed test

module _ (n : ℕ) (far : ℕ → ℕ → Bool) (back : (a b : ℕ) → far a b ≡ far b a) where
  abbrev Far : ℕ → ℕ → Type 0
  Far a b = far a b ≡ true

  far_both : (a b : ℕ) → Far a b → Far b a
  far_both a b e = back b a ∙ e

  end_reads : (a : ℕ) → Picked n (λ a. any n (far a)) a ↔ End n Far a
  end_reads a = (λ (l, e). let (b, m, f) = any_some n (far a) e in (b, (l, m, f)), λ (b, (l, m, f)). (l, any_here n (far a) b m f))

  ring_test : Bool
  ring_test = all n (λ a. not (any n (far a)) || eqb (count n (far a)) 2) && connected far (pick n (λ a. any n (far a)))

  ring_reads : (ring_test ≡ true) ↔ OneRing n Far
  unfolding ring_test
  ring_reads = (forth, back')
    where
      each : ℕ → Bool
      each a = not (any n (far a)) || eqb (count n (far a)) 2

      forth : ring_test ≡ true → OneRing n Far
      forth e =
          joined_ends n Far far_both
          (λ a b (la, lb, f).
          ⊎_elim (λ off. absurd (not_both (any_here n (far a) b lb f) (not-true (any n (far a)) off)))
          (λ two. count_two n (far a) (eqb-true (count n (far a)) 2 two))
          (or_either (not (any n (far a))) (eqb (count n (far a)) 2) (all_each n each (and_first (all n each) (connected far (pick n (λ a. any n (far a)))) e) a la)))
          (λ a c p q.
          chain_map (λ x m. (end_reads x).0 m) (λ x y _ _ f. f)
          (picked_chain far n (λ a. any n (far a)) (λ x y _ _ f. far_both x y f) (and_second (all n each) (connected far (pick n (λ a. any n (far a)))) e) a c
          ((end_reads a).1 p) ((end_reads c).1 q)))

      back' : OneRing n Far → ring_test ≡ true
      back' ring =
          and_both
          (each_all n each (λ a la.
          ⊎_elim
          (λ on.
          let (b, lb, f) = any_some n (far a) on in
          or_second (not (any n (far a))) (eq-eqb (count n (far a)) 2 (two_count n (far a) (ring.two a b (la, lb, f)))))
          (λ off. or_first (eqb (count n (far a)) 2) (ap not off)) (true_or_false (any n (far a)))))
          (chain_picked far n (λ a. any n (far a)) (λ x y p q.
          chain_map (λ z m. (end_reads z).1 m) (λ a b _ _ f. f) (ends_joined n Far far_both ring x y ((end_reads x).0 p) ((end_reads y).0 q))))

-- ---- one ring, clean

module _ (t : Table) (inside : ℕ → Bool) (id_count : ℕ) where
  -- a b is a far edge of v
  abbrev pub FarEdge : ℕ → ℕ → ℕ → Type 0
  FarEdge v a b = far_edge t inside v a b ≡ true

  pub one_ring_reads : (v : ℕ) → (one_ring t inside id_count v ≡ true) ↔ OneRing id_count (FarEdge v)
  unfolding one_ring far_end ring_test
  one_ring_reads v = ring_reads id_count (far_edge t inside v) (λ a b. far_back t inside v a b)

  -- a vertex that is not on the skin has no far edge, so nothing that could fail
  pub off_skin_ring : (v : ℕ) → v < id_count → skin_vertex t inside id_count v ≡ false → OneRing id_count (FarEdge v)
  unfolding skin_vertex far_end
  off_skin_ring v l off = record { two = λ a b e. absurd (none a b e); joined = λ e f p q. absurd (none e.0 e.1 p) }
    where
      none : (a b : ℕ) → Edge id_count (FarEdge v) (a, b) → ⊥
      none a b (la, lb, f) =
          not_both (any_here id_count (far_edge t inside v a) b lb f) (any_none id_count (far_end t inside id_count v) off a la)

-- ---- in plain relations

-- the skin is clean: at each skin vertex the edges opposite it in the skin triangles that hold it form one ring
abbrev pub Clean : Table → (ℕ → Type 0) → ℕ → Type 0
Clean t In id_count = (v : ℕ) → v < id_count → SkinVertex t In v → OneRing id_count (SkinTriangle t In v)

module _ (t : Table) (four : t.corners ≡ 4) (inside : ℕ → Bool) {In : ℕ → Type 0} (told : (s : ℕ) → (inside s ≡ true) ↔ In s) (id_count : ℕ) where
  pub ring_plain : (v : ℕ) → OneRing id_count (FarEdge t inside id_count v) ↔ OneRing id_count (SkinTriangle t In v)
  ring_plain v = (
    ring_map (λ a b. (far_reads t four inside told v a b).0) (λ a b. (far_reads t four inside told v a b).1),
    ring_map (λ a b. (far_reads t four inside told v a b).1) (λ a b. (far_reads t four inside told v a b).0),
  )
