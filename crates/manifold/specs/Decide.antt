-- What the five cases ask: that no row of the other side has a property. None that has it is then on the skin.
use Rattle.std.specs.Prelude.{◌≡◌, refl, ◌≢◌, Bool, true, false, ℕ, ◌≤◌, ◌<◌}
use Rattle.std.proofs.Common.{sym, ◌∙◌, subst, ⊎_elim, arith}
use Rattle.std.proofs.Math.Bool.{not}
use Rattle.rules.specs.Below.{count}
use Rattle.rules.specs.Table.{Table}
use Rattle.rules.specs.Skin.{on_skin}
use Rattle.rules.specs.Laws.Count.{count_without, without, is_without}
use Rattle.rules.specs.Reading.Closed.{Closed}
use Rattle.manifold.specs.Facet.{FlipAt, same_mark, not_differs}
use Rattle.manifold.specs.Triangle.{On, Skin}

-- two that pass are at least two
pub two_pass : (n : ℕ) (p : ℕ → Bool) (a b : ℕ) → a < n → b < n → p a ≡ true → p b ≡ true → a ≢ b → 2 ≤ count n p
two_pass n p a b la lb ta tb ne =
    omega (arith, count_without n p a la ta, count_without n (without p a) b lb (is_without p a b tb (λ (e : b ≡ a). ne (sym e))))

module _ (t : Table) (four : t.corners ≡ 4) {id_count : ℕ} (closed : Closed t id_count) {inside after : ℕ → Bool} {r : ℕ} (flip : FlipAt inside after r) (lr : r < t.rows)
    -- an add of an outside row, or a remove of an inside row
    (adding : Bool) (this_side : inside r ≡ not adding) where
  pub below_corners : {c : ℕ} → c < 4 → c < t.corners
  below_corners {c} l = subst (λ (n : ℕ). c < n) (sym four) l

  -- ---- no row of the other side

  -- row s is on the other side
  abbrev pub Other : ℕ → Type 0
  Other s = inside s ≡ adding

  -- no row of the other side has the property
  abbrev pub NoOther : (ℕ → Type 0) → Type 0
  NoOther P = (s : ℕ) → s < t.rows → Other s → P s → ⊥

  pub other_differs : {s : ℕ} → Other s → inside r ≢ inside s
  other_differs {s} o e = not_differs adding adding refl (sym this_side ∙ e ∙ o)

  -- of the two rows of a skin triangle one is on the other side
  pub on_other : {P : ℕ → Type 0} → NoOther P → {v a b : ℕ} → ((z : ℕ) → On t v a b z → P z) → Skin t inside v a b → ⊥
  on_other none has (_, s) =
      ⊎_elim (λ e. none s.one s.one_below e (has s.one s.one_on))
      (λ ne. none s.two s.two_below (second (inside s.one) (inside s.two) adding s.marks_differ ne) (has s.two s.two_on))
      (same_mark (inside s.one) adding)
    where
      second : (x y z : Bool) → x ≢ y → x ≢ z → y ≡ z
      second true true z n m = absurd (n refl)
      second true false true n m = absurd (m refl)
      second true false false n m = refl
      second false true true n m = refl
      second false true false n m = absurd (m refl)
      second false false z n m = absurd (n refl)

  -- ---- by the skin triangles of the row

  -- the triangle that leaves out corner c is on the skin
  abbrev pub Left : ℕ → Type 0
  Left c = on_skin t inside r c ≡ true
