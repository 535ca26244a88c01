-- Tests and what they say. That a test passes is `b ≡ true`.
use Rattle.std.specs.Prelude.{◌≡◌, refl, ◌⊎◌, ◌↔◌, Bool, true, false, not, ◌&&◌, ◌||◌, ℕ, ◌≤◌, ◌<◌, eqb, ltb, leb}
use Rattle.std.proofs.Common.{sym, ap, ◌∙◌, inl, inr, ⊎_elim, true≢false, arith, eqb-true, eq-eqb, ltb-true, ltb-false, lt-ltb, leb-true, le-leb}
use Rattle.std.proofs.lemmas.Bool.{eqb-false, not-true}

pub true_or_false : (b : Bool) → (b ≡ true) ⊎ (b ≡ false)
true_or_false true = inl refl
true_or_false false = inr refl

pub not_both : {b : Bool} → b ≡ true → b ≡ false → ⊥
not_both t f = true≢false (sym t ∙ f)

pub is_false : (b : Bool) → (b ≡ true → ⊥) → b ≡ false
is_false true h = absurd (h refl)
is_false false h = refl

pub is_true : (b : Bool) → (b ≡ false → ⊥) → b ≡ true
is_true true h = refl
is_true false h = absurd (h refl)

-- two tests that pass together are the same
pub same_test : (a b : Bool) → (a ≡ true → b ≡ true) → (b ≡ true → a ≡ true) → a ≡ b
same_test true b f g = sym (f refl)
same_test false true f g = g refl
same_test false false f g = refl

pub and_first : (a b : Bool) → a && b ≡ true → a ≡ true
and_first true b h = refl
and_first false b h = h

pub and_second : (a b : Bool) → a && b ≡ true → b ≡ true
and_second true b h = h
and_second false b h = absurd (true≢false (sym h))

pub and_both : {a b : Bool} → a ≡ true → b ≡ true → a && b ≡ true
and_both {a = true} p q = q
and_both {a = false} p q = p

pub or_either : (a b : Bool) → a || b ≡ true → (a ≡ true) ⊎ (b ≡ true)
or_either true b h = inl refl
or_either false b h = inr h

pub or_first : {a : Bool} (b : Bool) → a ≡ true → a || b ≡ true
or_first {a = true} b h = refl
or_first {a = false} b h = absurd (true≢false (sym h))

pub or_second : (a : Bool) {b : Bool} → b ≡ true → a || b ≡ true
or_second true h = refl
or_second false h = h

pub or_neither : {a b : Bool} → a ≡ false → b ≡ false → a || b ≡ false
or_neither {a = true} p q = p
or_neither {a = false} p q = q

pub or_no_first : (a b : Bool) → a || b ≡ false → a ≡ false
or_no_first true b h = h
or_no_first false b h = refl

pub or_no_second : (a b : Bool) → a || b ≡ false → b ≡ false
or_no_second true b h = absurd (true≢false h)
or_no_second false b h = h

-- a number is another, or not
pub same_or_not : (m n : ℕ) → (m ≡ n) ⊎ (m ≡ n → ⊥)
same_or_not m n = go (true_or_false (eqb m n))
  where
    go : (eqb m n ≡ true) ⊎ (eqb m n ≡ false) → (m ≡ n) ⊎ (m ≡ n → ⊥)
    go (inl t) = inl (eqb-true m n t)
    go (inr f) = inr (eqb-false m n f)

pub lower_same_higher : (m n : ℕ) → (m < n) ⊎ (m ≡ n) ⊎ (n < m)
lower_same_higher m n =
    ⊎_elim (λ h. inl (ltb-true m n h)) (λ h. inr (⊎_elim inl (λ ne. inr (omega (arith, ltb-false m n h, ne))) (same_or_not m n))) (true_or_false (ltb m n))

pub lower_or_higher : (m n : ℕ) → (m ≡ n → ⊥) → (m < n) ⊎ (n < m)
lower_or_higher m n ne = ⊎_elim inl (⊎_elim (λ e. absurd (ne e)) inr) (lower_same_higher m n)

pub eqb_back : (a b : ℕ) → eqb a b ≡ eqb b a
eqb_back a b = same_test (eqb a b) (eqb b a) (λ e. eq-eqb b a (sym (eqb-true a b e))) (λ e. eq-eqb a b (sym (eqb-true b a e)))

-- ---- a test and its negation, read

pub not_reads : {b : Bool} {P : Type 0} → (b ≡ true) ↔ P → (not b ≡ true) ↔ (P → ⊥)
not_reads {b} (forth, back) = (λ e p. not_both (back p) (not-true b e), λ off. ap not (is_false b (λ t. off (forth t))))

pub and_reads : {a b : Bool} {P Q : Type 0} → (a ≡ true) ↔ P → (b ≡ true) ↔ Q → (a && b ≡ true) ↔ (P × Q)
and_reads {a} {b} (f, g) (h, k) = (λ e. (f (and_first a b e), h (and_second a b e)), λ (p, q). and_both (g p) (k q))

pub or_reads : {a b : Bool} {P Q : Type 0} → (a ≡ true) ↔ P → (b ≡ true) ↔ Q → (a || b ≡ true) ↔ (P ⊎ Q)
or_reads {a} {b} (f, g) (h, k) = (λ e. ⊎_elim (λ t. inl (f t)) (λ t. inr (h t)) (or_either a b e), λ x. ⊎_elim (λ p. or_first b (g p)) (λ q. or_second a (k q)) x)

pub eqb_reads : (m n : ℕ) → (eqb m n ≡ true) ↔ (m ≡ n)
eqb_reads m n = (eqb-true m n, eq-eqb m n)

pub ltb_reads : (m n : ℕ) → (ltb m n ≡ true) ↔ (m < n)
ltb_reads m n = (ltb-true m n, lt-ltb m n)

pub leb_reads : (m n : ℕ) → (leb m n ≡ true) ↔ (m ≤ n)
leb_reads m n = (leb-true m n, le-leb m n)
