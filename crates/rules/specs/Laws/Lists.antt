-- Laws of gathered, tabulated and picked lists, and of parts.
use Rattle.std.specs.Prelude.{◌≡◌, ◌↔◌, ◌≢◌, Bool, cond, eqb, get_or, set, take, drop}
use Rattle.std.proofs.Math.Path.{refl, sym, ap, fun_ext}
use Rattle.std.proofs.Common.{ap₂, ◌∙◌, subst, le_of_suc-le-suc, not-suc-le-zero, eq-or-lt_of_le, lt_irrefl, zero-add, add-zero, suc-add, add-suc, mul-zero, mul-suc, arith, length-drop, length-set, length-take-le, get_or-set_same, get_or-set_other, ext_get_or, eq-eqb, ne_eqb}
use Rattle.std.proofs.Math.Logic.{⊎_elim}
use Rattle.std.proofs.Math.Bool.{true, false}
use mathlib.Core.List.Memᴰ
use mathlib.Core.List.{List, [], ◌∷◌, ◌++◌, map, map-append, Memᴰ, append-nil, append_assoc, flatten}
use Prim.Native.Nat.{ℕ, zero, suc, ◌+◌, ◌-◌, ◌*◌, ◌≤◌, ◌<◌}
use Rattle.std.proofs.Math.Nat.{le_refl, le_step}
use Rattle.std.proofs.Math.Numerals.{add-one}
use Rattle.std.proofs.Math.ListN.{length, length-append, get_or-append}
use Rattle.std.proofs.Math.Seq.{get_or_at}
use Rattle.rules.specs.Below.{bit, sum, count, gather, tabulate, only, pick}
use Rattle.rules.specs.Laws.Truth.{not_both, is_false, same_or_not}
use Rattle.rules.specs.Laws.Count.{none_count, count_without, without, without_is, is_without}

-- x is among the members of the list
abbrev pub Among {ℓ} : {A : Type ℓ} → A → List A → Type ℓ
Among x xs = Memᴰ x xs

module _ {ℓ} {A : Type ℓ} where
  -- ---- gathered lists

  pub gather_more : (n : ℕ) (f : ℕ → List A) → gather (n + 1) f ≡ gather n f ++ f n
  unfolding gather
  gather_more n f = rw add-one

  pub gather_same : (n : ℕ) (f g : ℕ → List A) → ((k : ℕ) → k < n → f k ≡ g k) → gather n f ≡ gather n g
  unfolding gather
  gather_same zero f g e = refl
  gather_same (suc n) f g e = rw (gather_same n f g (λ k l. e k (le_step l)), e n (le_refl (suc n)))

  gather_append : (a b : ℕ) (f : ℕ → List A) → gather (a + b) f ≡ gather a f ++ gather b (λ k. f (a + k))
  unfolding gather
  gather_append a zero f = rw (add-zero a) (sym (append-nil (gather a f)))
  gather_append a (suc b) f = rw (add-suc a b, gather_append a b f) (append_assoc (gather a f) (gather b (λ k. f (a + k))) (f (a + b)))

  -- n blocks of m
  pub gather_blocks : (m n : ℕ) (f : ℕ → List A) → gather (m * n) f ≡ gather n (λ s. gather m (λ e. f (m * s + e)))
  unfolding gather
  gather_blocks m zero f = rw (mul-zero m)
  gather_blocks m (suc n) f = rw (mul-suc m n, gather_append (m * n) m f, gather_blocks m n f)

  pub gather_length : (n : ℕ) (f : ℕ → List A) → length (gather n f) ≡ sum n (λ k. length (f k))
  unfolding gather sum
  gather_length zero f = refl
  gather_length (suc n) f = length-append (gather n f) (f n) ∙ ap (λ (x : ℕ). x + length (f n)) (gather_length n f)

  -- a longer gathering is no shorter
  pub gather_grows : (a b : ℕ) (f : ℕ → List A) → a ≤ b → length (gather a f) ≤ length (gather b f)
  gather_grows a b f l =
      let split : b ≡ a + (b - a) = omega arith in
      rw split (rw (gather_append a (b - a) f, length-append (gather a f) (gather (b - a) (λ k. f (a + k)))) (omega arith))

  pub flatten_snoc : (xs : List (List A)) (x : List A) → flatten (xs ++ x ∷ []) ≡ flatten xs ++ x
  unfolding flatten
  flatten_snoc [] x = append-nil x
  flatten_snoc (y ∷ ys) x = ap (λ (zs : List A). y ++ zs) (flatten_snoc ys x) ∙ sym (append_assoc y (flatten ys) x)

  -- a member of a flattened list is one of a list in it
  pub flatten_in : (x : A) (xs : List (List A)) → Among x (flatten xs) → (ys : List A) × Among ys xs × Among x ys
  unfolding flatten
  flatten_in x [] m = absurd (Memᴰ.not-nil m)
  flatten_in x (y ∷ xs) m =
      ⊎_elim (λ here. (y, Memᴰ.head refl, here)) (λ later. let (ys, i, j) = flatten_in x xs later in (ys, Memᴰ.tail i, j)) (Memᴰ.append_cases y m)

  pub in_gather : (n : ℕ) (f : ℕ → List A) (x : A) (k : ℕ) → k < n → Among x (f k) → Among x (gather n f)
  unfolding gather
  in_gather zero f x k h m = absurd (not-suc-le-zero h)
  in_gather (suc n) f x k h m =
      ⊎_elim (λ (e : k ≡ n). Memᴰ.append_right (gather n f) (subst (λ (j : ℕ). Among x (f j)) e m))
      (λ l. Memᴰ.append_left (f n) (in_gather n f x k l m)) (eq-or-lt_of_le (le_of_suc-le-suc h))

  pub gather_in : (n : ℕ) (f : ℕ → List A) (x : A) → Among x (gather n f) → (k : ℕ) × (k < n) × Among x (f k)
  unfolding gather
  gather_in zero f x m = absurd (Memᴰ.not-nil m)
  gather_in (suc n) f x m =
      ⊎_elim (λ (a : Among x (gather n f)). let (k, l, i) = gather_in n f x a in (k, le_step l, i)) (λ i. (n, le_refl (suc n), i))
      (Memᴰ.append_cases (gather n f) m)

  -- ---- tabulated lists

  pub tabulate_more : (n : ℕ) (f : ℕ → A) → tabulate (n + 1) f ≡ tabulate n f ++ (f n ∷ [])
  unfolding tabulate
  tabulate_more n f = gather_more n (λ k. f k ∷ [])

  pub tabulate_length : (n : ℕ) (f : ℕ → A) → length (tabulate n f) ≡ n
  unfolding tabulate gather
  tabulate_length zero f = refl
  tabulate_length (suc n) f = length-append (tabulate n f) (f n ∷ []) ∙ ap (λ (x : ℕ). x + 1) (tabulate_length n f) ∙ add-one n

  pub tabulate_at : (n : ℕ) (f : ℕ → A) (d : A) (k : ℕ) → k < n → get_or (tabulate n f) k d ≡ f k
  unfolding tabulate gather
  tabulate_at zero f d k h = absurd (not-suc-le-zero h)
  tabulate_at (suc n) f d k h =
      ⊎_elim (λ (e : k ≡ n). get_or_at (tabulate n f) (f n) [] d k (tabulate_length n f ∙ sym e) ∙ ap f (sym e))
      (λ (l : k < n). get_or-append (tabulate n f) (f n ∷ []) d k (subst (λ (m : ℕ). k < m) (sym (tabulate_length n f)) l) ∙ tabulate_at n f d k l)
      (eq-or-lt_of_le (le_of_suc-le-suc h))

  -- the list with these members
  pub tabulate_is : (n : ℕ) (f : ℕ → A) (d : A) (xs : List A) → length xs ≡ n → ((k : ℕ) → k < n → f k ≡ get_or xs k d) → tabulate n f ≡ xs
  tabulate_is n f d xs e same =
      ext_get_or d (tabulate n f) xs (tabulate_length n f ∙ sym e) (λ k l. let below = rw (tabulate_length n f) at l in tabulate_at n f d k below ∙ same k below)

  pub tabulate_same : (n : ℕ) (f g : ℕ → A) → ((k : ℕ) → k < n → f k ≡ g k) → tabulate n f ≡ tabulate n g
  unfolding tabulate
  tabulate_same n f g e = gather_same n (λ k. f k ∷ []) (λ k. g k ∷ []) (λ k l. ap (λ (x : A). x ∷ []) (e k l))

  -- another member at one place
  pub tabulate_set : (n : ℕ) (f : ℕ → A) (i : ℕ) (x : A) → i < n → set (tabulate n f) i x ≡ tabulate n (λ k. cond (eqb i k) x (f k))
  tabulate_set n f i x l =
      sym (tabulate_is n (λ k. cond (eqb i k) x (f k)) x (set (tabulate n f) i x) (length-set (tabulate n f) i x ∙ tabulate_length n f) (λ k m. ⊎_elim
      (λ (e : i ≡ k). rw (← e, eq-eqb i i refl, get_or-set_same (tabulate n f) i x x (rw (tabulate_length n f) l)))
      (λ (ne : i ≢ k). rw (ne_eqb i k ne, get_or-set_other (tabulate n f) i k x x (λ (e : k ≡ i). ne (sym e)), tabulate_at n f x k m)) (same_or_not i k)))

  -- another member behind a front
  pub set_append_add : (xs ys : List A) (i : ℕ) (a : A) → set (xs ++ ys) (length xs + i) a ≡ xs ++ set ys i a
  set_append_add [] ys i a = ap (λ (k : ℕ). set ys k a) (zero-add i)
  set_append_add (x ∷ xs) ys i a = ap (λ (k : ℕ). set (x ∷ (xs ++ ys)) k a) (suc-add (length xs) i) ∙ ap (λ (zs : List A). x ∷ zs) (set_append_add xs ys i a)

  -- ---- parts

  pub part_length : (xs : List A) (start size : ℕ) → start + size ≤ length xs → length (take size (drop start xs)) ≡ size
  part_length xs start size l = length-take-le size (drop start xs) (rw (length-drop start xs) (omega arith))

  -- ---- one, if a test passes

  pub in_only : (b : Bool) (x : A) → b ≡ true → Among x (only b x)
  unfolding only
  in_only true x t = Memᴰ.head refl
  in_only false x t = absurd (not_both t refl)

  pub only_in : (b : Bool) (x y : A) → Among y (only b x) → (b ≡ true) × (y ≡ x)
  unfolding only
  only_in true x y m = (refl, Memᴰ.eq_of_singleton m)
  only_in false x y m = absurd (Memᴰ.not-nil m)

  pub only_length : (b : Bool) (x : A) → length (only b x) ≡ bit b
  unfolding only bit
  only_length true x = refl
  only_length false x = refl

-- ---- members by their place

pub among_at : (xs : List ℕ) (k : ℕ) → k < length xs → Among (get_or xs k 0) xs
among_at [] k l = absurd (not-suc-le-zero l)
among_at (x ∷ xs) zero l = Memᴰ.head refl
among_at (x ∷ xs) (suc k) l = Memᴰ.tail (among_at xs k (le_of_suc-le-suc l))

-- ---- picked lists

pub in_pick : (n : ℕ) (p : ℕ → Bool) (k : ℕ) → k < n → p k ≡ true → Among k (pick n p)
unfolding pick
in_pick n p k l t = in_gather n (λ j. only (p j) j) k k l (in_only (p k) k t)

pub pick_in : (n : ℕ) (p : ℕ → Bool) (k : ℕ) → Among k (pick n p) → (k < n) × (p k ≡ true)
unfolding pick
pick_in n p k m =
    let (j, l, i) = gather_in n (λ j. only (p j) j) k m in
    let (t, e) = only_in (p j) j k i in
    (subst (λ (x : ℕ). x < n) (sym e) l, ap p e ∙ t)

pub pick_same : (n : ℕ) (p q : ℕ → Bool) → ((k : ℕ) → k < n → p k ≡ q k) → pick n p ≡ pick n q
unfolding pick
pick_same n p q e = gather_same n (λ k. only (p k) k) (λ k. only (q k) k) (λ k l. ap (λ (b : Bool). only b k) (e k l))

pub pick_length : (n : ℕ) (p : ℕ → Bool) → length (pick n p) ≡ count n p
unfolding pick count
pick_length n p = gather_length n (λ k. only (p k) k) ∙ ap (sum n) (fun_ext (λ k. only_length (p k) k))

-- no member stands twice
abbrev pub Distinct {ℓ} : {A : Type ℓ} → List A → Type ℓ
Distinct [] = Unit
Distinct (x ∷ xs) = (Among x xs → ⊥) × Distinct xs

distinct_more {ℓ} : {A : Type ℓ} (xs : List A) (k : A) → Distinct xs → (Among k xs → ⊥) → Distinct (xs ++ (k ∷ []))
distinct_more [] k d new = (Memᴰ.not-nil, tt)
distinct_more (x ∷ xs) k d new = (
  λ m. ⊎_elim d.0 (λ (i : Among x (k ∷ [])). new (Memᴰ.head (sym (Memᴰ.eq_of_singleton i)))) (Memᴰ.append_cases xs m),
  distinct_more xs k d.1 (λ m. new (Memᴰ.tail m)),
)

-- what is gathered stands once, if no two numbers bring the same
pub gathered_once {ℓ} : {A : Type ℓ} (n : ℕ) (p : ℕ → Bool) (f : ℕ → A) → ((j k : ℕ) → j < n → k < n → p j ≡ true → p k ≡ true → f j ≡ f k → j ≡ k) → Distinct (gather n (λ k. only (p k) (f k)))
unfolding gather only
gathered_once zero p f one = tt
gathered_once {A = A} (suc n) p f one = go (p n) refl (gathered_once n p f (λ j k lj lk. one j k (le_step lj) (le_step lk)))
  where
    new : p n ≡ true → Among (f n) (gather n (λ k. only (p k) (f k))) → ⊥
    new on m =
        let (k, l, i) = gather_in n (λ k. only (p k) (f k)) (f n) m in
        let (e, q) = only_in (p k) (f k) (f n) i in
        lt_irrefl n (subst (λ (j : ℕ). j < n) (sym (one n k (le_refl (suc n)) (le_step l) on e q)) l)

    go : (b : Bool) → p n ≡ b → Distinct (gather n (λ k. only (p k) (f k))) → Distinct (gather n (λ k. only (p k) (f k)) ++ only b (f n))
    go true on before = distinct_more (gather n (λ k. only (p k) (f k))) (f n) before (new on)
    go false off before = rw append-nil before

pub pick_distinct : (n : ℕ) (p : ℕ → Bool) → Distinct (pick n p)
unfolding pick
pick_distinct n p = gathered_once n p (λ k. k) (λ j k _ _ _ _ e. e)

-- Exactly f of the numbers below n have the property: those listed.
pub record Exactly (n : ℕ) (P : ℕ → Type 0) (f : ℕ) : Type 0 where
  pub those : List ℕ
  pub as_many : length those ≡ f
  pub once : Distinct those
  pub all_of_them : (k : ℕ) → Among k those ↔ ((k < n) × P k)

pub exactly_map : {n f : ℕ} {P Q : ℕ → Type 0} → ((k : ℕ) → P k ↔ Q k) → Exactly n P f → Exactly n Q f
exactly_map same x = record {
  those = x.those;
  as_many = x.as_many;
  once = x.once;
  all_of_them = λ k. (λ m. let (l, h) = (x.all_of_them k).0 m in (l, (same k).0 h), λ (l, h). (x.all_of_them k).1 (l, (same k).1 h));
}

-- a list of those that pass, each once, is as long as they are many
listed_count : (n : ℕ) (p : ℕ → Bool) (xs : List ℕ) → Distinct xs → ((k : ℕ) → Among k xs ↔ ((k < n) × (p k ≡ true))) → length xs ≡ count n p
listed_count n p [] d all = sym (none_count n p (λ k l. is_false (p k) (λ t. Memᴰ.not-nil ((all k).1 (l, t)))))
listed_count n p (x ∷ xs) (new, d) all =
    let (lx, tx) = (all x).0 (Memᴰ.head refl) in
    omega (
      arith,
      count_without n p x lx tx,
      listed_count n (without p x) xs d (λ k. (
        λ m. let (l, t) = (all k).0 (Memᴰ.tail m) in (l, is_without p x k t (λ (e : k ≡ x). new (subst (λ (j : ℕ). Among j xs) e m))),
        λ (l, w). let (t, ne) = without_is p x k w in ⊎_elim (λ (e : k ≡ x). absurd (ne e)) (λ m. m) (Memᴰ.cases_cons ((all k).1 (l, t))),
      )),
    )

pub count_exactly : (n : ℕ) (p : ℕ → Bool) (f : ℕ) → (count n p ≡ f) ↔ Exactly n (λ k. p k ≡ true) f
count_exactly n p f = (
  λ e. record { those = pick n p; as_many = pick_length n p ∙ e; once = pick_distinct n p; all_of_them = λ k. (pick_in n p k, λ (l, t). in_pick n p k l t) },
  λ x. sym (listed_count n p x.those x.once x.all_of_them) ∙ x.as_many,
)

-- each member is below all after it
abbrev pub Ascending : List ℕ → Type 0
Ascending [] = Unit
Ascending (x ∷ xs) = ((y : ℕ) → Among y xs → x < y) × Ascending xs

pub pick_ascending : (n : ℕ) (p : ℕ → Bool) → Ascending (pick n p)
unfolding pick gather only
pick_ascending zero p = tt
pick_ascending (suc n) p = go (p n) (pick_ascending n p)
  where
    above : (xs : List ℕ) → ((x : ℕ) → Among x xs → x < n) → Ascending xs → Ascending (xs ++ n ∷ [])
    above [] small up = (λ y m. absurd (Memᴰ.not-nil m), tt)
    above (x ∷ xs) small up = (
      λ y m. ⊎_elim (up.0 y) (λ (i : Among y (n ∷ [])). rw (Memᴰ.eq_of_singleton i) (small x (Memᴰ.head refl))) (Memᴰ.append_cases xs m),
      above xs (λ z m. small z (Memᴰ.tail m)) up.1,
    )

    go : (b : Bool) → Ascending (pick n p) → Ascending (pick n p ++ only b n)
    go true up = above (pick n p) (λ x m. (pick_in n p x m).0) up
    go false up = rw append-nil up

-- what is brought by the numbers that pass
pub map_pick {ℓ} : {A : Type ℓ} (n : ℕ) (p : ℕ → Bool) (f : ℕ → A) → map f (pick n p) ≡ gather n (λ k. only (p k) (f k))
unfolding pick gather only
map_pick zero p f = refl
map_pick (suc n) p f = map-append f (pick n p) (only (p n) n) ∙ ap₂ (λ (xs ys : List _). xs ++ ys) (map_pick n p f) (one (p n) n)
  where
    one : (b : Bool) (k : ℕ) → map f (only b k) ≡ only b (f k)
    one true k = refl
    one false k = refl
