-- By f: the skin with the row flipped is clean exactly if no row of the other side holds what the case asks for.
use Rattle.std.specs.Prelude.{◌≡◌, refl, ◌⊎◌, ◌↔◌, ◌≢◌, Bool, ℕ, ◌<◌}
use Rattle.std.proofs.Common.{sym, ⊎_elim}
use Rattle.std.proofs.Math.Bool.{not}
use Rattle.rules.specs.Table.{Table}
use Rattle.rules.specs.Reading.Rows.{one_corner, Holds}
use Rattle.rules.specs.Reading.Closed.{Closed}
use Rattle.manifold.specs.Facet.{FlipAt}
use Rattle.manifold.specs.Ring.{Empty, End}
use Rattle.manifold.specs.Triangle.{Skin, Rings}
use Rattle.manifold.specs.Sides.{skin_at_vertex, skin_at_edge}
use Rattle.manifold.specs.Cases.{four_from, four_at, needs_2}
use Rattle.manifold.specs.Decide as Asked
use Rattle.manifold.specs.Decide.{other_differs, on_other}
use Rattle.manifold.proofs.Cases.{passes_0, needs_0, passes_1, needs_1, passes_2}

module _ (t : Table) (four : t.corners ≡ 4) {id_count : ℕ} (closed : Closed t id_count) {inside after : ℕ → Bool} {r : ℕ} (flip : FlipAt inside after r) (lr : r < t.rows)
    -- an add of an outside row, or a remove of an inside row
    (adding : Bool) (this_side : inside r ≡ not adding) where
  abbrev NoOther : (ℕ → Type 0) → Type 0
  NoOther P = Asked.NoOther t four closed flip lr adding this_side P

  abbrev Left : ℕ → Type 0
  Left c = Asked.Left t four closed flip lr adding this_side c

  below_corners : {c : ℕ} → c < 4 → c < t.corners
  below_corners = Asked.below_corners t four closed flip lr adding this_side

  -- a vertex of the row is off the skin exactly if no row of the other side holds it
  free_vertex : {c : ℕ} → c < 4 → NoOther (λ s. Holds t s (t.id r c)) ↔ Empty (Skin t inside (t.id r c))
  free_vertex {c} l = (
    λ none a b skin. on_other t four closed flip lr adding this_side none (λ z h. h.0) skin,
    λ empty s ls o h. let (a, b, skin) = skin_at_vertex t four closed inside lr ls (c, below_corners l, refl) h (other_differs t four closed flip lr adding this_side o) in empty a b skin,
  )

  -- and so is an edge
  free_edge : {p q : ℕ} → p < 4 → q < 4 → p ≢ q
      → NoOther (λ s. Holds t s (t.id r p) × Holds t s (t.id r q)) ↔ (End (Skin t inside (t.id r p)) (t.id r q) → ⊥)
  free_edge {p} {q} lp lq ne = (
    λ none (b, skin). on_other t four closed flip lr adding this_side none (λ z h. (h.0, h.1.0)) skin,
    λ empty s ls o h.
        empty (skin_at_edge t four closed inside (λ (e : t.id r p ≡ t.id r q). ne (one_corner t (closed.paired.rising r lr) p q (below_corners lp) (below_corners lq) e)) lr ls
        ((p, below_corners lp, refl), (q, below_corners lq, refl)) h (other_differs t four closed flip lr adding this_side o)),
  )

  -- ---- by the skin triangles of the row

  pub case_0 : Rings t inside → ((c : ℕ) → c < 4 → Left c → ⊥) → Rings t after ↔ ((c : ℕ) → c < 4 → NoOther (λ s. Holds t s (t.id r c)))
  case_0 rings none = (
    λ after_rings c l. (free_vertex l).1 (needs_0 t four closed flip lr none after_rings c l),
    λ free. passes_0 t four closed flip lr none rings (λ c l. (free_vertex l).0 (free c l)),
  )

  pub case_1 : Rings t inside → {p : ℕ} → p < 4 → Left p → ((c : ℕ) → c < 4 → Left c → c ≡ p) → Rings t after ↔ NoOther (λ s. Holds t s (t.id r p))
  case_1 rings {p} lp left only =
      let (j, k, l, o) = four_at p lp in
      let off : (c : ℕ) → c < 4 → p ≢ c → Left c → ⊥ = λ c l ne e. ne (sym (only c l e)) in (
        λ after_rings.
            (free_vertex lp).1 (needs_1 t four closed flip lr o left (off j o.j_below o.ij) (off k o.k_below o.ik) (off l o.l_below o.il) after_rings),
        λ free.
            passes_1 t four closed flip lr o left (off j o.j_below o.ij) (off k o.k_below o.ik) (off l o.l_below o.il) rings ((free_vertex lp).0 free),
      )

  pub case_2 : Rings t inside → {p q : ℕ} → p < 4 → q < 4 → p ≢ q → Left p → Left q → ((c : ℕ) → c < 4 → Left c → (c ≡ p) ⊎ (c ≡ q))
      → Rings t after ↔ NoOther (λ s. Holds t s (t.id r p) × Holds t s (t.id r q))
  case_2 rings {p} {q} lp lq ne left_p left_q only =
      let (k, l, o) = four_from p q lp lq ne in
      let off : (c : ℕ) → c < 4 → p ≢ c → q ≢ c → Left c → ⊥ = λ c l np nq e. ⊎_elim (λ (g : c ≡ p). np (sym g)) (λ (g : c ≡ q). nq (sym g)) (only c l e) in (
        λ after_rings.
            (free_edge lp lq ne).1 (needs_2 t four closed flip lr o left_p left_q (off k o.k_below o.ik o.jk) (off l o.l_below o.il o.jl) after_rings),
        λ free.
            passes_2 t four closed flip lr o left_p left_q (off k o.k_below o.ik o.jk) (off l o.l_below o.il o.jl) rings ((free_edge lp lq ne).0 free),
      )
