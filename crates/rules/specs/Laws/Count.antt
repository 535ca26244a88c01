-- Laws of sums and counts: exactly one, exactly two, and counting in two ways.
use Rattle.std.specs.Prelude.{◌≡◌, refl, ◌⊎◌, ◌≢◌, Bool, true, false, not, ◌&&◌, ◌||◌, cond, ℕ, zero, suc, ◌+◌, ◌*◌, ◌≤◌, ◌<◌, eqb}
use Rattle.std.proofs.Common.{sym, ap, ◌∙◌, subst, inl, inr, ⊎_elim, true≢false, zero-le, le_of_suc-le-suc, not-suc-le-zero, eq-or-lt_of_le, le_refl, lt_irrefl, add-zero, zero-add, add-le-add, zero-mul, suc-mul, mul-suc, mul-zero, add-suc, add-one, arith, eqb-true, eq-eqb, ne_eqb}
use Rattle.std.specs.Bool.{beq}
use Rattle.std.proofs.Math.Bool.{xor, and-true, and-false}
use Rattle.std.proofs.Math.Nat.{le_step}
use Rattle.std.proofs.lemmas.Bool.{eqb-false, not-true, not-false}
use Rattle.rules.specs.Below.{any, all_but, bit, sum, count}
use Rattle.rules.specs.Laws.Truth.{true_or_false, not_both, is_false, is_true, and_first, and_second, and_both, or_either, or_first, or_second, same_or_not}
use Rattle.rules.specs.Laws.Below.{Lowest, lowest_or_none, any_here, none_any, all_each, each_all}

-- ---- sums

sum_more : (n : ℕ) (f : ℕ → ℕ) → sum (n + 1) f ≡ sum n f + f n
unfolding sum
sum_more n f = rw add-one

pub sum_same : (n : ℕ) (f g : ℕ → ℕ) → ((k : ℕ) → k < n → f k ≡ g k) → sum n f ≡ sum n g
unfolding sum
sum_same zero f g e = refl
sum_same (suc n) f g e = rw (sum_same n f g (λ k l. e k (le_step l)), e n (le_refl (suc n)))

pub sum_add : (n : ℕ) (f g : ℕ → ℕ) → sum n (λ k. f k + g k) ≡ sum n f + sum n g
unfolding sum
sum_add zero f g = refl
sum_add (suc n) f g = rw (sum_add n f g) (omega arith)

pub sum_zero : (n : ℕ) (f : ℕ → ℕ) → ((k : ℕ) → k < n → f k ≡ 0) → sum n f ≡ 0
unfolding sum
sum_zero zero f e = refl
sum_zero (suc n) f e = rw (sum_zero n f (λ k l. e k (le_step l)), e n (le_refl (suc n)))

pub sum_le : (n : ℕ) (f g : ℕ → ℕ) → ((k : ℕ) → k < n → f k ≤ g k) → sum n f ≤ sum n g
unfolding sum
sum_le zero f g e = le_refl 0
sum_le (suc n) f g e = add-le-add (sum_le n f g (λ k l. e k (le_step l))) (e n (le_refl (suc n)))

pub sum_const : (n k : ℕ) → sum n (λ _. k) ≡ n * k
unfolding sum
sum_const zero k = sym (zero-mul k)
sum_const (suc n) k = ap (λ (x : ℕ). x + k) (sum_const n k) ∙ sym (suc-mul n k)

-- a sum of which one number alone is not 0
sum_at : (n : ℕ) (f : ℕ → ℕ) (k : ℕ) → k < n → ((j : ℕ) → j < n → j ≢ k → f j ≡ 0) → sum n f ≡ f k
unfolding sum
sum_at zero f k h off = absurd (not-suc-le-zero h)
sum_at (suc n) f k h off =
    ⊎_elim
    (λ (e : k ≡ n). rw (e, sum_zero n f (λ j l. off j (le_step l) (λ (q : j ≡ k). lt_irrefl n (subst (λ (m : ℕ). m < n) (q ∙ e) l)))) (zero-add (f n)))
    (λ (l : k < n).
    rw (sum_at n f k l (λ j m. off j (le_step m)), off n (le_refl (suc n)) (λ (q : n ≡ k). lt_irrefl k (subst (λ (m : ℕ). k < m) q l))) (add-zero (f k)))
    (eq-or-lt_of_le (le_of_suc-le-suc h))

pub sum_swap : (n m : ℕ) (f : ℕ → ℕ → ℕ) → sum n (λ i. sum m (λ j. f i j)) ≡ sum m (λ j. sum n (λ i. f i j))
unfolding sum
sum_swap zero m f = sym (sum_zero m (λ j. 0) (λ j l. refl))
sum_swap (suc n) m f =
    ap (λ (x : ℕ). x + sum m (λ j. f n j)) (sum_swap n m f) ∙ sym (sum_add m (λ j. sum n (λ i. f i j)) (λ j. f n j))

-- ---- counts

pub count_more : (n : ℕ) (p : ℕ → Bool) → count (n + 1) p ≡ count n p + bit (p n)
unfolding count
count_more n p = sum_more n (λ k. bit (p k))

pub count_same : (n : ℕ) (p q : ℕ → Bool) → ((k : ℕ) → k < n → p k ≡ q k) → count n p ≡ count n q
unfolding count
count_same n p q e = sum_same n (λ k. bit (p k)) (λ k. bit (q k)) (λ k l. ap bit (e k l))

pub bit_one : {b : Bool} → b ≡ true → bit b ≡ 1
unfolding bit
bit_one t = rw t

pub bit_zero : {b : Bool} → b ≡ false → bit b ≡ 0
unfolding bit
bit_zero f = rw f

pub bit_small : (b : Bool) → bit b ≤ 1
unfolding bit
bit_small true = omega arith
bit_small false = omega arith

pub none_count : (n : ℕ) (p : ℕ → Bool) → ((k : ℕ) → k < n → p k ≡ false) → count n p ≡ 0
unfolding count
none_count n p off = sum_zero n (λ k. bit (p k)) (λ k l. bit_zero (off k l))

-- ---- block by block

sum_append : (a b : ℕ) (f : ℕ → ℕ) → sum (a + b) f ≡ sum a f + sum b (λ k. f (a + k))
unfolding sum
sum_append a zero f = rw (add-zero a) (sym (add-zero (sum a f)))
sum_append a (suc b) f = rw (add-suc a b, sum_append a b f) (omega arith)

-- n blocks of m
sum_blocks : (m n : ℕ) (f : ℕ → ℕ) → sum (m * n) f ≡ sum n (λ s. sum m (λ e. f (m * s + e)))
unfolding sum
sum_blocks m zero f = rw (mul-zero m)
sum_blocks m (suc n) f = rw (mul-suc m n, sum_append (m * n) m f, sum_blocks m n f)

pub count_blocks : (m n : ℕ) (p : ℕ → Bool) → count (m * n) p ≡ sum n (λ s. count m (λ e. p (m * s + e)))
unfolding count
count_blocks m n p = sum_blocks m n (λ k. bit (p k))

-- p without k
unfoldable pub without : (ℕ → Bool) → ℕ → ℕ → Bool
without p k j = p j && not (eqb j k)

split_bit : (a b : Bool) → (b ≡ true → a ≡ true) → bit a ≡ bit (a && not b) + bit b
unfolding bit
split_bit true true h = refl
split_bit true false h = refl
split_bit false true h = absurd (true≢false (sym (h refl)))
split_bit false false h = refl

-- one that passes, and the others that pass
pub count_without : (n : ℕ) (p : ℕ → Bool) (k : ℕ) → k < n → p k ≡ true → count n p ≡ count n (without p k) + 1
unfolding count without
count_without n p k h t =
    sum_same n (λ j. bit (p j)) (λ j. bit (without p k j) + bit (eqb j k))
    (λ j _. split_bit (p j) (eqb j k) (λ e. ap p (eqb-true j k e) ∙ t))
    ∙ sum_add n (λ j. bit (without p k j)) (λ j. bit (eqb j k))
    ∙ ap (λ (x : ℕ). count n (without p k) + x)
    (sum_at n (λ j. bit (eqb j k)) k h (λ j _ ne. bit_zero (ne_eqb j k ne)) ∙ bit_one (eq-eqb k k refl))

pub without_is : (p : ℕ → Bool) (k j : ℕ) → without p k j ≡ true → (p j ≡ true) × (j ≢ k)
unfolding without
without_is p k j t = (and_first (p j) (not (eqb j k)) t, eqb-false j k (not-true (eqb j k) (and_second (p j) (not (eqb j k)) t)))

pub is_without : (p : ℕ → Bool) (k j : ℕ) → p j ≡ true → j ≢ k → without p k j ≡ true
unfolding without
is_without p k j t ne = rw (t, ne_eqb j k ne)

pub count_some : (n : ℕ) (p : ℕ → Bool) → 0 < count n p → (k : ℕ) × (k < n) × (p k ≡ true)
count_some n p h =
    ⊎_elim (λ (k, l). (k, l.below, l.passes)) (λ off. absurd (omega (arith, none_count n p off))) (lowest_or_none n p)

pub count_zero : (n : ℕ) (p : ℕ → Bool) → count n p ≡ 0 → (k : ℕ) → k < n → p k ≡ false
count_zero n p e k h = is_false (p k) (λ t. omega (arith, count_without n p k h t))

-- none passes
pub count_none : (n : ℕ) (p : ℕ → Bool) → eqb (count n p) 0 ≡ not (any n p)
count_none n p = ⊎_elim some_passes none_passes (lowest_or_none n p)
  where
    some_passes : (k : ℕ) × Lowest n p k → eqb (count n p) 0 ≡ not (any n p)
    some_passes (k, l) =
        ne_eqb (count n p) 0 (λ (e : count n p ≡ 0). not_both l.passes (count_zero n p e k l.below)) ∙ ap not (sym (any_here n p k l.below l.passes))

    none_passes : ((k : ℕ) → k < n → p k ≡ false) → eqb (count n p) 0 ≡ not (any n p)
    none_passes off = eq-eqb (count n p) 0 (none_count n p off) ∙ ap not (sym (none_any n p off))

-- one that did not pass, and now does or does not
pub count_with : (n : ℕ) (p q : ℕ → Bool) (k : ℕ) → k < n → p k ≡ false → ((j : ℕ) → j < n → j ≢ k → q j ≡ p j) → count n q ≡ count n p + bit (q k)
unfolding without
count_with n p q k l off same = ⊎_elim passes fails (true_or_false (q k))
  where
    passes : q k ≡ true → count n q ≡ count n p + bit (q k)
    passes on =
        count_without n q k l on ∙ ap (λ (m : ℕ). m + 1) (count_same n (without q k) p (λ j m. ⊎_elim (λ (e : j ≡ k). rw (e, eq-eqb k k refl, off) (and-false (q k)))
        (λ ne. rw (ne_eqb j k ne, same j m ne) (and-true (p j))) (same_or_not j k)))
        ∙ ap (λ (m : ℕ). count n p + m) (sym (bit_one on))

    fails : q k ≡ false → count n q ≡ count n p + bit (q k)
    fails not_k =
        count_same n q p (λ j m. ⊎_elim (λ (e : j ≡ k). ap q e ∙ not_k ∙ sym (ap p e ∙ off)) (same j m) (same_or_not j k))
        ∙ sym (add-zero (count n p)) ∙ ap (λ (m : ℕ). count n p + m) (sym (bit_zero not_k))

count_le : (n : ℕ) (p q : ℕ → Bool) → ((k : ℕ) → k < n → p k ≡ true → q k ≡ true) → count n p ≤ count n q
unfolding count
count_le n p q e = sum_le n (λ k. bit (p k)) (λ k. bit (q k)) (λ k l. bit_le (p k) (q k) (e k l))
  where
    bit_le : (a b : Bool) → (a ≡ true → b ≡ true) → bit a ≤ bit b
    bit_le true b f = rw (f refl) (le_refl (bit true))
    bit_le false b f = rw (bit_zero {b = false} refl) zero-le

-- of two tests, one of which passes no less, with the same count
pub count_le_same : (n : ℕ) (p q : ℕ → Bool) → ((k : ℕ) → k < n → p k ≡ true → q k ≡ true) → count n p ≡ count n q → (k : ℕ) → k < n → q k ≡ true → p k ≡ true
count_le_same n p q sub same k l t =
    is_true (p k) (λ off. let more = count_le n p (without q k) (λ j m on. is_without q k j (sub j m on) (λ (e : j ≡ k). not_both on (ap p e ∙ off))) in
    omega (arith, count_without n q k l t))

-- ---- exactly one

pub record ExactlyOne (n : ℕ) (P : ℕ → Type 0) : Type 0 where
  pub one : ℕ
  pub below : one < n
  pub is : P one
  pub only : (k : ℕ) → k < n → P k → k ≡ one

unfoldable pub one_map : {n : ℕ} {P Q : ℕ → Type 0} → ((k : ℕ) → P k → Q k) → ((k : ℕ) → Q k → P k) → ExactlyOne n P → ExactlyOne n Q
one_map forth back x = record { one = x.one; below = x.below; is = forth x.one x.is; only = λ k l q. x.only k l (back k q) }

pub count_one : (n : ℕ) (p : ℕ → Bool) → count n p ≡ 1 → ExactlyOne n (λ k. p k ≡ true)
count_one n p e =
    let (k, l, t) = count_some n p (omega arith) in
    let rest : count n (without p k) ≡ 0 = omega (arith, count_without n p k l t) in
    record {
      one = k;
      below = l;
      is = t;
      only = λ j m q. ⊎_elim (λ (same : j ≡ k). same) (λ ne. absurd (not_both (is_without p k j q ne) (count_zero n (without p k) rest j m))) (same_or_not j k);
    }

pub one_count : (n : ℕ) (p : ℕ → Bool) → ExactlyOne n (λ k. p k ≡ true) → count n p ≡ 1
one_count n p x =
    let rest : count n (without p x.one) ≡ 0 =
    none_count n (without p x.one) (λ j l. is_false (without p x.one j) (λ t. let (q, ne) = without_is p x.one j t in ne (x.only j l q)))
    in
    omega (arith, count_without n p x.one x.below x.is)

-- ---- exactly two

pub record ExactlyTwo (n : ℕ) (P : ℕ → Type 0) : Type 0 where
  pub one : ℕ
  pub two : ℕ
  pub one_below : one < n
  pub two_below : two < n
  pub one_is : P one
  pub two_is : P two
  pub differ : one ≢ two
  pub only : (k : ℕ) → k < n → P k → (k ≡ one) ⊎ (k ≡ two)

-- the one other than k
pub record TheOther (n : ℕ) (P : ℕ → Type 0) (k : ℕ) : Type 0 where
  pub other : ℕ
  pub below : other < n
  pub is : P other
  pub differs : other ≢ k
  pub only : (j : ℕ) → j < n → P j → j ≢ k → j ≡ other

-- of exactly two, the one other than a given one
pub the_other : {n : ℕ} {P : ℕ → Type 0} → ExactlyTwo n P → (k : ℕ) → k < n → P k → TheOther n P k
the_other {n} {P} x k l p = go (x.only k l p)
  where
    go : (k ≡ x.one) ⊎ (k ≡ x.two) → TheOther n P k
    go (inl e) = record {
      other = x.two;
      below = x.two_below;
      is = x.two_is;
      differs = λ (q : x.two ≡ k). x.differ (sym e ∙ sym q);
      only = λ j m r ne. ⊎_elim (λ (q : j ≡ x.one). absurd (ne (q ∙ sym e))) (λ q. q) (x.only j m r);
    }
    go (inr e) = record {
      other = x.one;
      below = x.one_below;
      is = x.one_is;
      differs = λ (q : x.one ≡ k). x.differ (q ∙ e);
      only = λ j m r ne. ⊎_elim (λ q. q) (λ (q : j ≡ x.two). absurd (ne (q ∙ sym e))) (x.only j m r);
    }

-- and back
two_of_other : {n k : ℕ} {P : ℕ → Type 0} → k < n → P k → TheOther n P k → ExactlyTwo n P
two_of_other {n} {k} {P} l p o = record {
  one = k;
  two = o.other;
  one_below = l;
  two_below = o.below;
  one_is = p;
  two_is = o.is;
  differ = λ (e : k ≡ o.other). o.differs (sym e);
  only = λ j m q. ⊎_elim inl (λ ne. inr (o.only j m q ne)) (same_or_not j k);
}

unfoldable pub two_map : {n : ℕ} {P Q : ℕ → Type 0} → ((k : ℕ) → P k → Q k) → ((k : ℕ) → Q k → P k) → ExactlyTwo n P → ExactlyTwo n Q
two_map forth back x = record {
  one = x.one;
  two = x.two;
  one_below = x.one_below;
  two_below = x.two_below;
  one_is = forth x.one x.one_is;
  two_is = forth x.two x.two_is;
  differ = x.differ;
  only = λ k l q. x.only k l (back k q);
}

-- count is 2: exactly one other
pub count_other : (n : ℕ) (p : ℕ → Bool) → count n p ≡ 2 → (k : ℕ) → k < n → p k ≡ true → TheOther n (λ j. p j ≡ true) k
count_other n p e k l t =
    let x = count_one n (without p k) (omega (arith, count_without n p k l t)) in
    let (q, ne) = without_is p k x.one x.is in
    record { other = x.one; below = x.below; is = q; differs = ne; only = λ j m r d. x.only j m (is_without p k j r d) }

pub count_two : (n : ℕ) (p : ℕ → Bool) → count n p ≡ 2 → ExactlyTwo n (λ k. p k ≡ true)
count_two n p e = let (k, l, t) = count_some n p (omega arith) in two_of_other l t (count_other n p e k l t)

pub two_count : (n : ℕ) (p : ℕ → Bool) → ExactlyTwo n (λ k. p k ≡ true) → count n p ≡ 2
two_count n p x =
    let o = the_other x x.one x.one_below x.one_is in
    let rest : count n (without p x.one) ≡ 1 =
    one_count n (without p x.one) (record {
      one = o.other;
      below = o.below;
      is = is_without p x.one o.other o.is o.differs;
      only = λ j l t. let (q, ne) = without_is p x.one j t in o.only j l q ne;
    })
    in
    omega (arith, count_without n p x.one x.one_below x.one_is)

-- of two, one is on one side and one on the other exactly if just one of them is on the first side
pub one_side : (n : ℕ) (on inside : ℕ → Bool) (k : ℕ) → k < n → on k ≡ true → (o : TheOther n (λ j. on j ≡ true) k)
    → eqb (count n (λ j. inside j && on j)) 1 ≡ xor (inside k) (inside o.other)
unfolding xor
one_side n on inside k l is o = go (inside k) (inside o.other) refl refl
  where
    both : ℕ → Bool
    both j = inside j && on j

    mine : inside k ≡ true → both k ≡ true
    mine e = and_both e is

    its : inside o.other ≡ true → both o.other ≡ true
    its e = and_both e o.is

    only_mine : inside o.other ≡ false → (j : ℕ) → j < n → both j ≡ true → j ≡ k
    only_mine f j m q =
        ⊎_elim (λ e. e) (λ ne. absurd (not_both (and_first (inside j) (on j) q) (ap inside (o.only j m (and_second (inside j) (on j) q) ne) ∙ f))) (same_or_not j k)

    only_its : inside k ≡ false → (j : ℕ) → j < n → both j ≡ true → j ≡ o.other
    only_its f j m q = o.only j m (and_second (inside j) (on j) q) (λ (e : j ≡ k). not_both (and_first (inside j) (on j) q) (ap inside e ∙ f))

    go : (a b : Bool) → inside k ≡ a → inside o.other ≡ b → eqb (count n both) 1 ≡ not (beq a b)
    go true true p q = rw (two_count n both (two_of_other l (mine p) (record {
      other = o.other;
      below = o.below;
      is = its q;
      differs = o.differs;
      only = λ j m r ne. o.only j m (and_second (inside j) (on j) r) ne;
    })))
    go true false p q = rw (one_count n both (record { one = k; below = l; is = mine p; only = only_mine q }))
    go false true p q = rw (one_count n both (record { one = o.other; below = o.below; is = its q; only = only_its p }))
    go false false p q =
        rw (none_count n both (λ j m. is_false (both j) (λ r. not_both (and_first (inside j) (on j) r) (ap inside (only_its p j m r) ∙ q))))

-- ---- those that pass and those that do not

count_always : (n : ℕ) (p : ℕ → Bool) → ((k : ℕ) → k < n → p k ≡ true) → count n p ≡ n
unfolding count sum
count_always zero p on = refl
count_always (suc n) p on = rw (count_always n p (λ k l. on k (le_step l)), bit_one (on n (le_refl (suc n)))) (add-one n)

pub count_not : (n : ℕ) (p : ℕ → Bool) → count n p + count n (λ k. not (p k)) ≡ n
unfolding count
count_not n p =
    sym (sum_add n (λ k. bit (p k)) (λ k. bit (not (p k))))
    ∙ sum_same n (λ k. bit (p k) + bit (not (p k))) (λ k. bit true) (λ k _. either (p k))
    ∙ count_always n (λ k. true) (λ k _. refl)
  where
    either : (b : Bool) → bit b + bit (not b) ≡ bit true
    either true = rw (bit_zero {b = false} refl) (add-zero (bit true))
    either false = rw (bit_zero {b = false} refl) (zero-add (bit true))

-- of those that pass a second test, those that pass the first and those that do not
pub count_sides : (n : ℕ) (p q : ℕ → Bool) → count n (λ k. p k && q k) + count n (λ k. not (p k) && q k) ≡ count n q
unfolding count
count_sides n p q =
    sym (sum_add n (λ k. bit (p k && q k)) (λ k. bit (not (p k) && q k)))
    ∙ sum_same n (λ k. bit (p k && q k) + bit (not (p k) && q k)) (λ k. bit (q k)) (λ k _. either (p k) (q k))
  where
    either : (a b : Bool) → bit (a && b) + bit (not a && b) ≡ bit b
    either true b = rw (bit_zero {b = false} refl) (add-zero (bit b))
    either false b = rw (bit_zero {b = false} refl) (zero-add (bit b))

-- where at most one passes, some passes as often as it passes
pub any_count : (n : ℕ) (p : ℕ → Bool) → ((j k : ℕ) → j < n → k < n → p j ≡ true → p k ≡ true → j ≡ k) → bit (any n p) ≡ count n p
any_count n p one = ⊎_elim some_passes none_passes (lowest_or_none n p)
  where
    some_passes : (k : ℕ) × Lowest n p k → bit (any n p) ≡ count n p
    some_passes (k, l) =
        bit_one (any_here n p k l.below l.passes)
        ∙ sym (one_count n p (record { one = k; below = l.below; is = l.passes; only = λ j m t. one j k m l.below t l.passes }))

    none_passes : ((k : ℕ) → k < n → p k ≡ false) → bit (any n p) ≡ count n p
    none_passes off = bit_zero (none_any n p off) ∙ sym (none_count n p off)

pub all_but_each : (n : ℕ) (p : ℕ → Bool) (c : ℕ) → all_but n p c ≡ true → (k : ℕ) → k < n → k ≢ c → p k ≡ true
unfolding all_but
all_but_each n p c e k l ne =
    ⊎_elim (λ q. absurd (ne (eqb-true k c q))) (λ t. t) (or_either (eqb k c) (p k) (all_each n (λ k. eqb k c || p k) e k l))

pub each_all_but : (n : ℕ) (p : ℕ → Bool) (c : ℕ) → ((k : ℕ) → k < n → k ≢ c → p k ≡ true) → all_but n p c ≡ true
unfolding all_but
each_all_but n p c on =
    each_all n (λ k. eqb k c || p k) (λ k l.
    ⊎_elim (λ e. or_first (p k) (eq-eqb k c e)) (λ ne. or_second (eqb k c) (on k l ne)) (same_or_not k c))

-- How many can be left out so that every other passes: any if none fails, the one that fails if one does, else none.
-- So the number of those that pass decides it.
unfoldable pub leavable : ℕ → ℕ → ℕ
leavable n passing = cond (eqb passing n) n (cond (eqb (passing + 1) n) 1 0)

pub all_but_count : (n : ℕ) (p : ℕ → Bool) → count n (all_but n p) ≡ leavable n (count n p)
unfolding leavable
all_but_count n p = go (same_or_not (count n p) n) (same_or_not (count n p + 1) n)
  where
    fails : ℕ → Bool
    fails k = not (p k)

    none_fails : count n fails ≡ 0 → count n (all_but n p) ≡ n
    none_fails z = count_always n (all_but n p) (λ c l. each_all_but n p c (λ k m _. not-false (p k) (count_zero n fails z k m)))

    one_fails : ExactlyOne n (λ k. fails k ≡ true) → count n (all_but n p) ≡ 1
    one_fails x =
        one_count n (all_but n p) (record {
          one = x.one;
          below = x.below;
          is = each_all_but n p x.one (λ k l ne. not-false (p k) (is_false (fails k) (λ f. ne (x.only k l f))));
          only = λ c l e. ⊎_elim (λ (q : x.one ≡ c). sym q)
              (λ ne. absurd (not_both (all_but_each n p c e x.one x.below ne) (not-true (p x.one) x.is))) (same_or_not x.one c);
        })

    more_fail : 2 ≤ count n fails → count n (all_but n p) ≡ 0
    more_fail h =
        let (a, la, fa) = count_some n fails (omega arith) in
        let (b, lb, fb) = count_some n (without fails a) (omega (arith, count_without n fails a la fa)) in
        let (fb', b≢a) = without_is fails a b fb in
        none_count n (all_but n p) (λ c l. is_false (all_but n p c) (λ e.
        let miss : (k : ℕ) → k < n → fails k ≡ true → k ≡ c =
        λ k m f. ⊎_elim (λ q. q) (λ ne. absurd (not_both (all_but_each n p c e k m ne) (not-true (p k) f))) (same_or_not k c)
        in
        b≢a (miss b lb fb' ∙ sym (miss a la fa))))

    go : (count n p ≡ n) ⊎ (count n p ≢ n) → (count n p + 1 ≡ n) ⊎ (count n p + 1 ≢ n)
        → count n (all_but n p) ≡ cond (eqb (count n p) n) n (cond (eqb (count n p + 1) n) 1 0)
    go (inl e) _ = rw (eq-eqb (count n p) n e) (none_fails (omega (arith, count_not n p)))
    go (inr ne) (inl e) =
        rw (ne_eqb (count n p) n ne, eq-eqb (count n p + 1) n e) (one_fails (count_one n fails (omega (arith, count_not n p))))
    go (inr ne) (inr ne') = rw (ne_eqb (count n p) n ne, ne_eqb (count n p + 1) n ne') (more_fail (omega (arith, count_not n p)))
