-- The skin is clean exactly if each id has one ring.
use Rattle.std.specs.Prelude.{◌≡◌, ◌↔◌, Bool, true, ℕ, ◌<◌, ltb}
use Rattle.std.proofs.Common.{⊎_elim, ltb-true, lt-ltb}
use Rattle.rules.specs.Table.{Table}
use Rattle.rules.specs.Skin.{clean, skin_vertex}
use Rattle.rules.specs.Laws.Truth.{true_or_false, not_both}
use Rattle.rules.specs.Reading.Closed.{Closed}
use Rattle.rules.specs.Reading.Ring.{OneRing, ring_map, FarEdge, off_skin_ring}
use Rattle.rules.proofs.Reading.Ring.{clean_reads}
use Rattle.manifold.specs.Ring.{Edges, Ring, empty_ring, ring_reads}
use Rattle.manifold.specs.Triangle as By
use Rattle.manifold.specs.Triangle.{skin_back, far_skin, ends_below}

module _ (t : Table) where
  abbrev Skin : (ℕ → Bool) → ℕ → Edges
  Skin inside v = By.Skin t inside v

  abbrev Rings : (ℕ → Bool) → Type 0
  Rings inside = By.Rings t inside

  module _ (four : t.corners ≡ 4) {id_count : ℕ} (closed : Closed t id_count) where
    -- one ring at v, by the far edges of `rules` and by skin triangles
    ring_skin : (inside : ℕ → Bool) (v : ℕ) → OneRing id_count (FarEdge t inside id_count v) ↔ Ring (Skin inside v)
    ring_skin inside v =
        let (forth, back) = ring_reads {n = id_count} (λ a b s. let (_, la, lb) = ends_below t four closed inside v a b s in (la, lb)) (skin_back t inside v) in (
          λ ring. forth (ring_map (λ a b. (far_skin t four closed inside v a b).0) (λ a b. (far_skin t four closed inside v a b).1) ring),
          λ ring. ring_map (λ a b. (far_skin t four closed inside v a b).1) (λ a b. (far_skin t four closed inside v a b).0) (back ring),
        )

    -- the skin is clean exactly if each id has one ring
    pub clean_rings : (inside : ℕ → Bool) → (clean t inside id_count ≡ true) ↔ Rings inside
    clean_rings inside = (
      λ e v. ⊎_elim (λ l. below e v (ltb-true v id_count l))
          (λ f. empty_ring (λ a b s. let (lv, _, _) = ends_below t four closed inside v a b s in not_both (lt-ltb v id_count lv) f)) (true_or_false (ltb v id_count)),
      λ rings. (clean_reads t inside id_count).1 (λ v _ _. (ring_skin inside v).1 (rings v)),
    )
      where
        below : clean t inside id_count ≡ true → (v : ℕ) → v < id_count → Ring (Skin inside v)
        below e v l =
            ⊎_elim (λ on. (ring_skin inside v).0 ((clean_reads t inside id_count).0 e v l on)) (λ off. (ring_skin inside v).0 (off_skin_ring t inside id_count v l off))
            (true_or_false (skin_vertex t inside id_count v))
