-- Places below n, threaded into chains: all places with one key stand in one chain, rising.
-- `head` has for each key its first place, and `next` for each place the next one with its key; n stands for none.
use Rattle.std.specs.Prelude.{◌≡◌, ◌⊎◌, ◌≢◌, Bool, true, false, cond, List, ℕ, ◌+◌, ◌-◌, ◌≤◌, ◌<◌, leb, length, get_or, set, replicate}
use Rattle.std.proofs.Common.{sym, ap, ◌∙◌, subst, inl, inr, ⊎_elim, le_refl, eq-or-lt_of_le, arith, leb-true, leb-false, get_or-set_same, get_or-set_other}
use Rattle.std.proofs.lemmas.List.{get_or-replicate}
use Rattle.rules.specs.Below.{bit, sum, count}
use Rattle.rules.specs.Laws.Truth.{true_or_false, is_false, same_or_not}
use Rattle.rules.specs.Laws.Count.{count_more}
use Rattle.rules.specs.Laws.Highest.{highest, highest_more, count_over, highest_over}

-- ---- chains

module _ (key : ℕ → ℕ) (n : ℕ) where
  -- m is the first place from i on with the key v, or n if there is none
  pub record Next (v i m : ℕ) : Type 0 where
    pub from : i ≤ m
    pub upto : m ≤ n
    pub hits : m < n → key m ≡ v
    pub passed : (j : ℕ) → i ≤ j → j < m → key j ≢ v

  -- the places from i on are threaded
  pub record Threaded (i : ℕ) (head next : List ℕ) : Type 0 where
    pub heads : (v : ℕ) → v < 8192 → Next v i (get_or head v 0)
    pub nexts : (p : ℕ) → i ≤ p → p < n → Next (key p) (p + 1) (get_or next p 0)

  pub none_threaded : {place : ℕ} (next : List ℕ) → place ≡ n → Threaded place (replicate 8192 place) next
  none_threaded {place} next e = record {
    heads = λ v l. subst (Next v place) (sym (get_or-replicate 8192 v place 0 l)) (record {
      from = le_refl place;
      upto = omega arith;
      hits = λ m. absurd (omega arith);
      passed = λ j l m. absurd (omega arith);
    });
    nexts = λ p l m. absurd (omega arith);
  }

  -- one place more, put before its chain
  more_threaded : (i : ℕ) (head next : List ℕ) → i < n → key i < 8192 → length head ≡ 8192 → i < length next → Threaded (i + 1) head next
      → Threaded i (set head (key i) i) (set next i (get_or head (key i) 0))
  more_threaded i head next l small full ln t = record {
    heads = λ v lv.
        ⊎_elim (λ (e : v ≡ key i). subst (Next v i) (sym (ap (λ (u : ℕ). get_or (set head (key i) i) u 0) e ∙ get_or-set_same head (key i) i 0 (subst (λ (k : ℕ). key i < k) (sym full) small))) (itself v e))
        (λ ne. subst (Next v i) (sym (get_or-set_other head (key i) v i 0 ne)) (before v (λ (e : key i ≡ v). ne (sym e)) (t.heads v lv))) (same_or_not v (key i));
    nexts = λ p lp lpn.
        ⊎_elim (λ (e : p ≡ i). subst (λ (q : ℕ). Next (key q) (q + 1) (get_or (set next i (get_or head (key i) 0)) q 0)) (sym e)
        (subst (Next (key i) (i + 1)) (sym (get_or-set_same next i (get_or head (key i) 0) 0 ln)) (t.heads (key i) small)))
        (λ ne. subst (Next (key p) (p + 1)) (sym (get_or-set_other next i p (get_or head (key i) 0) 0 ne)) (t.nexts p (omega arith) lpn)) (same_or_not p i);
  }
    where
      itself : (v : ℕ) → v ≡ key i → Next v i i
      itself v e = record { from = le_refl i; upto = omega arith; hits = λ _. sym e; passed = λ j u w. absurd (omega arith) }

      before : (v : ℕ) → key i ≢ v → {m : ℕ} → Next v (i + 1) m → Next v i m
      before v ne x = record {
        from = omega (arith, x.from);
        upto = x.upto;
        hits = x.hits;
        passed = λ j u w. ⊎_elim (λ (e : i ≡ j). subst (λ (k : ℕ). key k ≢ v) e ne) (λ (m : i < j). x.passed j (omega arith) w) (eq-or-lt_of_le u);
      }

  -- the same, as a loop that counts down does it
  pub link_threaded : (place k : ℕ) (head next head' next' : List ℕ) → 1 ≤ place → place ≤ n → k ≡ key (place - 1) → k < 8192 → length head ≡ 8192 → n ≤ length next
      → Threaded place head next → head' ≡ set head k (place - 1) → next' ≡ set next (place - 1) (get_or head k 0) → Threaded (place - 1) head' next'
  link_threaded place k head next head' next' l m same small full room t e f =
      rw (e, f, same) (more_threaded (place - 1) head next (omega arith) (rw same at small) full (omega arith) (subst (λ (i : ℕ). Threaded i head next) (omega arith) t))

  -- ---- a walk along the chain of a place

  -- A test that only places with the key v pass. A walk stands at q; what it has counted is what passes below q.
  module _ (p : ℕ → Bool) (v : ℕ) (fits : (q : ℕ) → q < n → p q ≡ true → key q ≡ v) where
    pub off_chain : {i m : ℕ} → Next v i m → (k : ℕ) → i ≤ k → k < m → p k ≡ false
    off_chain x k u w = is_false (p k) (λ t. x.passed k u w (fits k (omega (arith, x.upto)) t))

    -- the walk's first place
    pub walk_first : {m : ℕ} → Next v 0 m → (0 ≡ count m p) × (0 ≡ highest m p)
    unfolding count sum highest
    walk_first {m} x = (count_over p 0 m x.from (off_chain x), highest_over p 0 m x.from (off_chain x))

    -- from place q to the next of its chain
    pub walk_count : (q : ℕ) {m : ℕ} → Next v (q + 1) m → count q p + bit (p q) ≡ count m p
    walk_count q {m} x = sym (count_more q p) ∙ count_over p (q + 1) m x.from (off_chain x)

    pub walk_highest : (q : ℕ) {m : ℕ} → Next v (q + 1) m → cond (p q) q (highest q p) ≡ highest m p
    walk_highest q {m} x = sym (highest_more q p) ∙ highest_over p (q + 1) m x.from (off_chain x)

    -- what has not passed below q, and not at q, has not passed below the next
    pub walk_none : (q : ℕ) {m : ℕ} → Next v (q + 1) m → ((k : ℕ) → k < q → p k ≡ false) → p q ≡ false → (k : ℕ) → k < m → p k ≡ false
    walk_none q {m} x none here k l =
        ⊎_elim (λ w. ⊎_elim (λ (e : k ≡ q). ap p e ∙ here) (λ u. none k u) (eq-or-lt_of_le w)) (λ (w : q < k). off_chain x k (omega arith) l) (below_or_above k q)
      where
        below_or_above : (k q : ℕ) → (k ≤ q) ⊎ (q < k)
        below_or_above k q = ⊎_elim (λ t. inl (leb-true k q t)) (λ f. inr (leb-false k q f)) (true_or_false (leb k q))
