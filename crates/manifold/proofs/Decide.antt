-- The five cases decide: on a closed table with a clean skin they pass exactly if the skin with the row flipped is clean.
use Rattle.std.specs.Prelude.{◌≡◌, ◌⊎◌, ◌≢◌, Bool, true, ℕ, zero, suc, ◌≤◌, ◌<◌}
use Rattle.std.proofs.Common.{ap, inl, inr, ⊎_elim, arith}
use Rattle.std.proofs.Math.Bool.{not}
use Rattle.rules.specs.Below.{count}
use Rattle.rules.specs.Table.{Table}
use Rattle.rules.specs.Skin.{on_skin, clean}
use Rattle.rules.specs.Cases.{passes}
use Rattle.rules.specs.Laws.Truth.{not_both, is_false, is_true, same_test, same_or_not}
use Rattle.rules.specs.Laws.Count.{count_zero, count_one, count_two, count_not}
use Rattle.rules.specs.Reading.Closed.{Closed}
use Rattle.rules.specs.Reading.Answers.{Refuses, neither_holds}
use Rattle.rules.proofs.Reading.Answers.{passes_reads}
use Rattle.manifold.specs.Facet.{FlipAt}
use Rattle.manifold.specs.Triangle.{Rings}
use Rattle.manifold.specs.Sides.{below_four}
use Rattle.manifold.specs.Decide as Asked
use Rattle.manifold.specs.Decide.{two_pass}
use Rattle.manifold.proofs.Triangle.{clean_rings}
use Rattle.manifold.proofs.Cases.{passes_more}
use Rattle.manifold.proofs.Free.{case_0, case_1, case_2}

module _ (t : Table) (four : t.corners ≡ 4) {id_count : ℕ} (closed : Closed t id_count) {inside after : ℕ → Bool} {r : ℕ} (flip : FlipAt inside after r) (lr : r < t.rows)
    -- an add of an outside row, or a remove of an inside row
    (adding : Bool) (this_side : inside r ≡ not adding) where
  abbrev Other : ℕ → Type 0
  Other s = Asked.Other t four closed flip lr adding this_side s

  abbrev Left : ℕ → Type 0
  Left c = Asked.Left t four closed flip lr adding this_side c

  below_corners : {c : ℕ} → c < 4 → c < t.corners
  below_corners = Asked.below_corners t four closed flip lr adding this_side

  -- ---- by the definition of `rules`

  refused : Rings t inside → Rings t after → Refuses t Left Other r → ⊥
  refused rings after_rings (zero, (none, (c, l, (s, ls, o, h)))) =
      (case_0 t four closed flip lr adding this_side rings (λ c l. none c (below_corners l))).0 after_rings c (below_four t four l) s ls o h
  refused rings after_rings (suc zero, (x, (s, ls, o, h))) =
      (case_1 t four closed flip lr adding this_side rings (below_four t four x.below) x.is (λ c l. x.only c (below_corners l))).0 after_rings s ls o h
  refused rings after_rings (suc (suc zero), (x, held)) =
      let (s, ls, o, h) = (neither_holds t Left Other r x).0 held in
      (case_2 t four closed flip lr adding this_side rings (below_four t four x.one_below) (below_four t four x.two_below) x.differ x.one_is x.two_is (λ c l. x.only c (below_corners l))).0 after_rings s ls o h
  refused rings after_rings (suc (suc (suc f)), x) = x

  f : ℕ
  f = count t.corners (on_skin t inside r)

  taken : Rings t inside → (Refuses t Left Other r → ⊥) → Rings t after
  unfolding f
  taken rings free = by_f (same_or_not f 0) (same_or_not f 1) (same_or_not f 2)
    where
      too_many : f ≢ 0 → f ≢ 1 → f ≢ 2 → 2 ≤ count t.corners (λ c. not (on_skin t inside r c)) → ⊥
      too_many n₀ n₁ n₂ h = omega (arith, count_not t.corners (on_skin t inside r), four)

      by_f : (f ≡ 0) ⊎ (f ≢ 0) → (f ≡ 1) ⊎ (f ≢ 1) → (f ≡ 2) ⊎ (f ≢ 2) → Rings t after
      by_f (inl z) _ _ =
          let none : (c : ℕ) → c < t.corners → Left c → ⊥ = λ c l e. not_both e (count_zero t.corners (on_skin t inside r) z c l) in
          (case_0 t four closed flip lr adding this_side rings (λ c l. none c (below_corners l))).1 (λ c l s ls o h. free (0, (none, (c, below_corners l, (s, ls, o, h)))))
      by_f (inr _) (inl one) _ =
          let x = count_one t.corners (on_skin t inside r) one in
          (case_1 t four closed flip lr adding this_side rings (below_four t four x.below) x.is (λ c l. x.only c (below_corners l))).1 (λ s ls o h. free (1, (x, (s, ls, o, h))))
      by_f (inr _) (inr _) (inl two) =
          let x = count_two t.corners (on_skin t inside r) two in
          (case_2 t four closed flip lr adding this_side rings (below_four t four x.one_below) (below_four t four x.two_below) x.differ x.one_is x.two_is (λ c l. x.only c (below_corners l))).1
          (λ s ls o h. free (2, (x, (neither_holds t Left Other r x).1 (s, ls, o, h))))
      by_f (inr n₀) (inr n₁) (inr n₂) =
          passes_more t four closed flip lr (λ a b la lb na nb.
          ⊎_elim (λ e. e) (λ ne. absurd (too_many n₀ n₁ n₂ (two_pass t.corners (λ c. not (on_skin t inside r c)) a b (below_corners la) (below_corners lb)
          (ap not (is_false (on_skin t inside r a) na)) (ap not (is_false (on_skin t inside r b) nb)) ne))) (same_or_not a b)) rings

  -- Lhuillier's Theorem 4 and the remark after it
  pub cases_decide : clean t inside id_count ≡ true → passes t inside adding r ≡ clean t after id_count
  cases_decide e =
      same_test (passes t inside adding r) (clean t after id_count)
      (λ p. (clean_rings t four closed after).1 (taken ((clean_rings t four closed inside).0 e) (λ x. not_both p ((passes_reads t inside adding r).1 x))))
      (λ q. is_true (passes t inside adding r) (λ n. refused ((clean_rings t four closed inside).0 e) ((clean_rings t four closed after).0 q) ((passes_reads t inside adding r).0 n)))
