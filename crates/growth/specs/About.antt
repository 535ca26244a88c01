-- Whether an edge is free of the other side, by walking about it.
use Rattle.std.specs.Prelude.{◌≡◌, refl, ◌⊎◌, ◌≢◌, Bool, true, not, ◌||◌, ℕ, ◌<◌, eqb}
use Rattle.std.proofs.Math.Path.{sym}
use Rattle.std.proofs.Common.{ap, ◌∙◌, subst, inl, inr, eq-eqb, ne_eqb}
use Rattle.std.proofs.Math.Logic.{⊎_elim}
use Rattle.std.proofs.Math.Bool.{false}
use Rattle.rules.specs.Table.{Table, across}
use Rattle.rules.specs.Cases.{other_side}
use Rattle.rules.specs.Laws.Truth.{not_both, is_false, and_first, and_second, and_both, or_either, or_no_first, or_no_second, same_or_not}
use Rattle.rules.specs.Laws.Below.{none_any}
use Rattle.rules.specs.Reading.Rows.{ids_differ}
use Rattle.rules.specs.Reading.Closed.{Paired, Closed}
use Rattle.rules.specs.Reading.Moves.{At, both, both_reads, leaves_reads}
use Rattle.round.specs.Edge.{Near, Turning, Turned, near_at, turn_whole}
use Rattle.growth.specs.Free.{touches, both_free, touched}

-- a and b are an edge of row x, and `from` is across a triangle of x that holds it
pub record Beside (t : Table) (a b from x : ℕ) : Type 0 where
  pub edge : a ≢ b
  pub near : Near t a b x from

-- rows of different sides, of which one is not the other side
crossed : (adding : Bool) (inside : ℕ → Bool) (x y : ℕ) → inside y ≢ inside x → other_side adding inside x ≡ false → other_side adding inside y ≡ true
unfolding other_side
crossed adding inside x y ne = go adding (inside x) (inside y) refl refl
  where
    go : (d p q : Bool) → inside x ≡ p → inside y ≡ q → other_side d inside x ≡ false → other_side d inside y ≡ true
    go d true true e f off = absurd (ne (f ∙ sym e))
    go d false false e f off = absurd (ne (f ∙ sym e))
    go true true false e f off = absurd (not_both (rw e) off)
    go true false true e f off = rw f
    go false true false e f off = rw f
    go false false true e f off = absurd (not_both (rw e) off)

same_sided : (adding : Bool) (inside : ℕ → Bool) (x y : ℕ) → inside y ≡ inside x → other_side adding inside y ≡ other_side adding inside x
unfolding other_side
same_sided adding inside x y e = rw e

module _ {t : Table} {id_count : ℕ} (closed : Closed t id_count) (four : t.corners ≡ 4) {a b row last : ℕ} (s : Beside t a b last row) (adding : Bool) (inside : ℕ → Bool) where
  other : ℕ → Bool
  other = other_side adding inside

  edge_touched : (z : ℕ) → At t a b z → other z ≡ true → false ≡ both_free t other a b
  unfolding touches both
  edge_touched z (l, h) on = touched t other a b z l (and_both on h)

  -- tests whether the row and the last are of the other side
  module _ {p q : Bool} (ep : p ≡ other_side adding inside row) (eq : q ≡ other_side adding inside last) where
    pub start_touched : p || q ≡ true → false ≡ both_free t (other_side adding inside) a b
    unfolding other
    start_touched on =
        ⊎_elim (λ (h : p ≡ true). edge_touched row s.near.0 (sym ep ∙ h))
        (λ (h : q ≡ true). edge_touched last (near_at closed.paired four s.edge row last s.near) (sym eq ∙ h)) (or_either p q on)

    -- where the walk came round, no row of the other side holds the edge
    pub about_decides : p || q ≡ false → {at y : ℕ} → Turned t inside a b last row at y → eqb y last ≡ both_free t (other_side adding inside) a b
    unfolding both_free touches both other
    about_decides off {at} {y} w = go (same_or_not y last)
      where
        row_off : other row ≡ false
        row_off = sym ep ∙ or_no_first p q off

        all_off : y ≡ last → (z : ℕ) → At t a b z → other z ≡ false
        all_off home z at_z =
            ⊎_elim (λ (e : z ≡ last). ap other e ∙ sym eq ∙ or_no_second p q off)
            (λ ne. same_sided adding inside row z (turn_whole closed.paired four s.edge inside s.near closed (subst (Turning t inside a b last row w.k at) home w.going) z at_z ne) ∙ row_off)
            (same_or_not z last)

        go : (y ≡ last) ⊎ (y ≢ last) → eqb y last ≡ both_free t other a b
        go (inl home) =
            eq-eqb y last home ∙ sym (ap not (none_any t.rows (touches t other a b) (λ z l. is_false (touches t other a b z) (λ on.
            not_both (and_first (other z) (both t a b z) on) (all_off home z (l, and_second (other z) (both t a b z) on))))))
        go (inr ne) =
            ne_eqb y last ne ∙ ⊎_elim (λ (e : y ≡ last). absurd (ne e))
            (λ d. edge_touched y (near_at closed.paired four s.edge at y w.going.next.near) (crossed adding inside row y d row_off)) w.stops

-- ---- an edge of a row, by three of its corners

module _ {t : Table} {id_count : ℕ} (paired : Paired t id_count) (four : t.corners ≡ 4) (r : ℕ) (l : r < t.rows) where
  differ : (i j : ℕ) → i < 4 → j < 4 → i ≢ j → t.id r i ≢ t.id r j
  differ i j li lj = ids_differ t (paired.rising r l) (rw four li) (rw four lj)

  pub edge_start : (i j k : ℕ) → i < 4 → j < 4 → k < 4 → (i ≢ j) × (k ≢ i) × (k ≢ j)
      → Beside t (t.id r i) (t.id r j) (across t r k) r
  edge_start i j k li lj lk (ij, ki, kj) = record {
    edge = differ i j li lj ij;
    near = (
      (l, (both_reads t (t.id r i) (t.id r j) r).1 ((i, rw four li, refl), (j, rw four lj, refl))),
      (k, lk, (leaves_reads t (t.id r i) (t.id r j) r k).1 (differ k i lk li ki, differ k j lk lj kj), refl),
    );
  }
