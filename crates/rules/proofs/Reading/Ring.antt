-- Clean: each skin vertex has one ring.
use Rattle.std.specs.Prelude.{◌≡◌, ◌↔◌, true}
use Rattle.std.proofs.Math.Path.{ap}
use Rattle.std.proofs.Math.Bool.{Bool, not}
use Prim.Native.Nat.{ℕ, ◌<◌}
use Rattle.std.proofs.lemmas.Bool.{not-true, not-false}
use Rattle.rules.specs.Below.{any}
use Rattle.rules.specs.Table.{Table}
use Rattle.rules.specs.Skin.{one_ring, skin_vertex, ringless, clean}
use Rattle.rules.specs.Laws.Truth.{not_both, is_false, and_first, and_second, and_both}
use Rattle.rules.specs.Laws.Below.{any_here, none_any}
use Rattle.rules.specs.Reading.Closed.{Paired}
use Rattle.rules.specs.Reading.Skin.{skin_vertex_reads}
use Rattle.rules.specs.Reading.Ring.{OneRing, FarEdge, one_ring_reads, Clean, ring_plain}

-- ---- one ring, clean

module _ (t : Table) (inside : ℕ → Bool) (id_count : ℕ) where
  -- each skin vertex has one ring
  pub clean_reads : (clean t inside id_count ≡ true) ↔ ((v : ℕ) → v < id_count → skin_vertex t inside id_count v ≡ true → OneRing id_count (FarEdge t inside id_count v))
  unfolding clean ringless
  clean_reads = (
    λ e v l on.
        (one_ring_reads t inside id_count v).0 (not-false (one_ring t inside id_count v) (is_false (not (one_ring t inside id_count v)) (λ q.
        not_both (any_here id_count (ringless t inside id_count) v l (and_both on q)) (not-true (any id_count (ringless t inside id_count)) e)))),
    λ rings.
        ap not (none_any id_count (ringless t inside id_count) (λ v l. is_false (ringless t inside id_count v) (λ q.
        not_both ((one_ring_reads t inside id_count v).1 (rings v l (and_first (skin_vertex t inside id_count v) (not (one_ring t inside id_count v)) q)))
        (not-true (one_ring t inside id_count v) (and_second (skin_vertex t inside id_count v) (not (one_ring t inside id_count v)) q))))),
  )

-- ---- in plain relations

module _ (t : Table) (four : t.corners ≡ 4) (inside : ℕ → Bool) {In : ℕ → Type 0} (told : (s : ℕ) → (inside s ≡ true) ↔ In s) (id_count : ℕ) where
  pub clean_plain : Paired t id_count → (clean t inside id_count ≡ true) ↔ Clean t In id_count
  clean_plain paired =
      let (forth, back) = clean_reads t inside id_count in (
        λ e v l on. (ring_plain t four inside told id_count v).0 (forth e v l ((skin_vertex_reads t four inside told paired v).1 on)),
        λ rings. back (λ v l on. (ring_plain t four inside told id_count v).1 (rings v l ((skin_vertex_reads t four inside told paired v).0 on))),
      )
