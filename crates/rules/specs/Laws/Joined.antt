-- Connectedness: any two members are joined by a chain.
use Rattle.std.specs.Prelude.{◌≡◌, ◌⊎◌, Bool, true, false, cond, length}
use Rattle.std.proofs.Math.Path.{refl, ap, subst}
use Rattle.std.proofs.Common.{sym, ◌∙◌, arith}
use Rattle.std.proofs.Math.Logic.{inl, inr, ⊎_elim}
use Rattle.std.proofs.Math.Bool.{not}
use mathlib.Core.List.Memᴰ
use mathlib.Core.List.{List, [], ◌∷◌, ◌++◌}
use Prim.Native.Nat.{ℕ, zero, suc, ◌+◌, ◌≤◌, ◌<◌}
use Rattle.std.proofs.Math.ListN.{length-append}
use borrow.Author.Tests.{not-true}
use Rattle.rules.specs.Below.{pick}
use Rattle.rules.specs.Joined.{those, unreached, none_left, connected}
use Rattle.rules.specs.Laws.Truth.{true_or_false, not_both}
use Rattle.rules.specs.Laws.Lists.{Among, Distinct, in_pick, pick_in, pick_distinct}

-- ---- chains

-- from x to y by members, each next to the one before it
pub data Chain {A : Type 0} (Member : A → Type 0) (Next : A → A → Type 0) : A → A → Type 0 where
  stay : {x y : A} → Member x → x ≡ y → Chain Member Next x y
  step : {x y z : A} → Member x → Next x y → Chain Member Next y z → Chain Member Next x z

module _ {A : Type 0} {Member : A → Type 0} {Next : A → A → Type 0} where
  pub chain_starts : {x y : A} → Chain Member Next x y → Member x
  chain_starts (stay m e) = m
  chain_starts (step m n c) = m

  pub chain_ends : {x y : A} → Chain Member Next x y → Member y
  chain_ends (stay m e) = subst Member e m
  chain_ends (step m n c) = chain_ends c

  pub chain_join : {x y z : A} → Chain Member Next x y → Chain Member Next y z → Chain Member Next x z
  chain_join {z = z} (stay {x} {y} m e) c = subst (λ (a : A). Chain Member Next a z) (sym e) c
  chain_join (step m n c) d = step m n (chain_join c d)

  -- where what is next is next both ways
  pub chain_back : ((x y : A) → Member x → Member y → Next x y → Next y x) → {x y : A} → Chain Member Next x y → Chain Member Next y x
  chain_back back (stay {x} {y} m e) = stay (subst Member e m) (sym e)
  chain_back back (step {x} {y} m n c) = chain_join (chain_back back c) (step (chain_starts c) (back x y m (chain_starts c) n) (stay m refl))

-- what is passed on from each member to the next is passed on along the chain
pub chain_passes : {A : Type 0} {M : A → Type 0} {R : A → A → Type 0} (P : A → Type 0) → ((x y : A) → M x → M y → R x y → P x → P y)
    → {x y : A} → Chain M R x y → P x → P y
chain_passes P on (stay m e) p = subst P e p
chain_passes P on (step {x} {y} m n c) p = chain_passes P on c (on x y m (chain_starts c) n p)

pub chain_map : {A : Type 0} {M N : A → Type 0} {R S : A → A → Type 0} → ((x : A) → M x → N x) → ((x y : A) → M x → M y → R x y → S x y)
    → {x y : A} → Chain M R x y → Chain N S x y
chain_map f g (stay {x} {y} m e) = stay (f x m) e
chain_map f g (step {x} {y} m n c) = step (f x m) (g x y m (chain_starts c) n) (chain_map f g c)

-- ---- those that pass

those_in : (p : ℕ → Bool) (xs : List ℕ) (y : ℕ) → Among y (those p xs) → Among y xs × (p y ≡ true)
unfolding those
those_in p [] y m = absurd (Memᴰ.not-nil m)
those_in p (x ∷ xs) y m = go (p x) refl m (λ i. those_in p xs y i)
  where
    go : (b : Bool) → p x ≡ b → Among y (cond b (x ∷ those p xs) (those p xs)) → (Among y (those p xs) → Among y xs × (p y ≡ true))
        → Among y (x ∷ xs) × (p y ≡ true)
    go true e i later =
        ⊎_elim (λ (q : y ≡ x). (Memᴰ.head q, ap p q ∙ e)) (λ j. (Memᴰ.tail (later j).0, (later j).1)) (Memᴰ.cases_cons i)
    go false e i later = (Memᴰ.tail (later i).0, (later i).1)

in_those : (p : ℕ → Bool) (xs : List ℕ) (y : ℕ) → Among y xs → p y ≡ true → Among y (those p xs)
unfolding those
in_those p [] y m t = absurd (Memᴰ.not-nil m)
in_those p (x ∷ xs) y m t = go (p x) refl (λ i. in_those p xs y i t) (Memᴰ.cases_cons m)
  where
    go : (b : Bool) → p x ≡ b → (Among y xs → Among y (those p xs)) → (y ≡ x) ⊎ Among y xs → Among y (cond b (x ∷ those p xs) (those p xs))
    go true e later (inl q) = Memᴰ.head q
    go true e later (inr i) = Memᴰ.tail (later i)
    go false e later (inl q) = absurd (not_both t (ap p q ∙ e))
    go false e later (inr i) = later i

those_length : (p : ℕ → Bool) (xs : List ℕ) → length (those p xs) + length (those (λ x. not (p x)) xs) ≡ length xs
unfolding those
those_length p [] = refl
those_length p (x ∷ xs) = go (p x) (those_length p xs)
  where
    go : (b : Bool) → length (those p xs) + length (those (λ x. not (p x)) xs) ≡ length xs
        → length (cond b (x ∷ those p xs) (those p xs)) + length (cond (not b) (x ∷ those (λ x. not (p x)) xs) (those (λ x. not (p x)) xs)) ≡ suc (length xs)
    go true e = omega arith
    go false e = omega arith

-- ---- what is reached and what is not

module _ (next : ℕ → ℕ → Bool) where
  abbrev Next : ℕ → ℕ → Type 0
  Next x y = next x y ≡ true

  -- what is left was there
  unreached_in : (turns : ℕ) (todo rest : List ℕ) (y : ℕ) → Among y (unreached next turns todo rest) → Among y rest
  unfolding unreached
  unreached_in zero todo rest y m = m
  unreached_in (suc turns) [] rest y m = m
  unreached_in (suc turns) (x ∷ todo) rest y m =
      (those_in (λ z. not (next x z)) rest y (unreached_in turns (todo ++ those (next x) rest) (those (λ z. not (next x z)) rest) y m)).0

  -- a member of `rest` is left, or a chain from `todo` ends in it
  reached_or_left : (Member : ℕ → Type 0) (turns : ℕ) (todo rest : List ℕ) → ((z : ℕ) → Among z todo → Member z) → ((z : ℕ) → Among z rest → Member z)
      → (y : ℕ) → Among y rest → Among y (unreached next turns todo rest) ⊎ ((x : ℕ) × Among x todo × Chain Member Next x y)
  unfolding unreached
  reached_or_left Member zero todo rest in_todo in_rest y m = inl m
  reached_or_left Member (suc turns) [] rest in_todo in_rest y m = inl m
  reached_or_left Member (suc turns) (x ∷ todo) rest in_todo in_rest y m =
      go (true_or_false (next x y)) (λ (i : Among y later).
      reached_or_left Member turns sooner later (λ z j. ⊎_elim (λ a. in_todo z (Memᴰ.tail a)) (λ a. in_rest z (those_in (next x) rest z a).0) (Memᴰ.append_cases todo j))
      (λ z j. in_rest z (those_in (λ u. not (next x u)) rest z j).0) y i)
    where
      later : List ℕ
      later = those (λ z. not (next x z)) rest

      sooner : List ℕ
      sooner = todo ++ those (next x) rest

      Outcome : List ℕ → Type 0
      Outcome from = Among y (unreached next turns sooner later) ⊎ ((u : ℕ) × Among u from × Chain Member Next u y)

      first : Member x
      first = in_todo x (Memᴰ.head refl)

      from : Outcome sooner → Outcome (x ∷ todo)
      from (inl left) = inl left
      from (inr (u, j, c)) =
          ⊎_elim (λ a. inr (u, Memᴰ.tail a, c)) (λ a. inr (x, Memᴰ.head refl, step first (those_in (next x) rest u a).1 c))
          (Memᴰ.append_cases todo j)

      go : (next x y ≡ true) ⊎ (next x y ≡ false) → (Among y later → Outcome sooner) → Outcome (x ∷ todo)
      go (inl t) _ = inr (x, Memᴰ.head refl, step first t (stay (in_rest y m) refl))
      go (inr f) further = from (further (in_those (λ z. not (next x z)) rest y m (ap not f)))

  -- after enough turns nothing in `todo` is next to what is left, and what in `rest` is next to it is left too
  left_apart : (turns : ℕ) (todo rest : List ℕ) → length todo + length rest ≤ turns → (w : ℕ) → Among w (unreached next turns todo rest)
      → ((u : ℕ) → Among u todo → next u w ≡ false) × ((u : ℕ) → Among u rest → next u w ≡ true → Among u (unreached next turns todo rest))
  unfolding unreached
  left_apart zero todo [] enough w m = absurd (Memᴰ.not-nil m)
  left_apart zero todo (y ∷ rest) enough w m = absurd (omega arith)
  left_apart (suc turns) [] rest enough w m = (λ u i. absurd (Memᴰ.not-nil i), λ u i _. i)
  left_apart (suc turns) (x ∷ todo) rest enough w m =
      let (todo_apart, rest_apart) =
      left_apart turns (todo ++ those (next x) rest) (those (λ y. not (next x y)) rest)
      (omega (arith, length-append todo (those (next x) rest), those_length (next x) rest)) w m
      in
      let (_, apart) = those_in (λ y. not (next x y)) rest w (unreached_in turns (todo ++ those (next x) rest) (those (λ y. not (next x y)) rest) w m) in (
        λ u i.
            ⊎_elim (λ (e : u ≡ x). ap (λ (z : ℕ). next z w) e ∙ not-true (next x w) apart) (λ j. todo_apart u (Memᴰ.append_left (those (next x) rest) j))
            (Memᴰ.cases_cons i),
        λ u i t.
            ⊎_elim (λ (s : next x u ≡ true). absurd (not_both t (todo_apart u (Memᴰ.append_right todo (in_those (next x) rest u i s)))))
            (λ (f : next x u ≡ false). rest_apart u (in_those (λ y. not (next x y)) rest u i (ap not f)) t) (true_or_false (next x u)),
      )

  -- so a chain that ends in what is left comes from there, if it starts in `todo` or in `rest`
  left_before : (turns : ℕ) (todo rest : List ℕ) → length todo + length rest ≤ turns → {u w : ℕ} → Chain (λ z. Among z todo ⊎ Among z rest) Next u w
      → Among w (unreached next turns todo rest) → Among u (unreached next turns todo rest)
  left_before turns todo rest enough (stay _ e) m = Memᴰ.cast e m
  left_before turns todo rest enough (step {x} {y} member n c) m =
      let later = left_before turns todo rest enough c m in
      let (todo_apart, rest_apart) = left_apart turns todo rest enough y later in
      ⊎_elim (λ i. absurd (not_both n (todo_apart x i))) (λ i. rest_apart x i n) member

-- a number below n that passes
abbrev pub Picked : ℕ → (ℕ → Bool) → ℕ → Type 0
Picked n p k = (k < n) × (p k ≡ true)

-- ---- connected: any two members are joined by a chain of members

none_left_in : (xs : List ℕ) → none_left xs ≡ true → (y : ℕ) → Among y xs → ⊥
unfolding none_left
none_left_in [] t y m = Memᴰ.not-nil m
none_left_in (x ∷ xs) t y m = not_both t refl

in_none_left : (xs : List ℕ) → ((y : ℕ) → Among y xs → ⊥) → none_left xs ≡ true
unfolding none_left
in_none_left [] off = refl
in_none_left (x ∷ xs) off = absurd (off x (Memᴰ.head refl))

module _ (next : ℕ → ℕ → Bool) where
  -- `xs` are members, and a chain goes through members alone
  abbrev Joins : List ℕ → ℕ → ℕ → Type 0
  Joins xs x y = Chain (λ z. Among z xs) (λ a b. next a b ≡ true) x y

  from_first : (h : ℕ) (xs : List ℕ) → connected next (h ∷ xs) ≡ true → (z : ℕ) → Among z (h ∷ xs) → Joins (h ∷ xs) h z
  unfolding connected
  from_first h xs t z m = ⊎_elim (λ (e : z ≡ h). stay (Memᴰ.head refl) (sym e)) later (Memᴰ.cases_cons m)
    where
      later : Among z xs → Joins (h ∷ xs) h z
      later l =
          ⊎_elim (λ left. absurd (none_left_in (unreached next (suc (length xs)) (h ∷ []) xs) t z left))
          (λ (u, i, c). subst (λ (a : ℕ). Joins (h ∷ xs) a z) (Memᴰ.eq_of_singleton i) c)
          (reached_or_left next (λ a. Among a (h ∷ xs)) (suc (length xs)) (h ∷ []) xs
          (λ a i. Memᴰ.head (Memᴰ.eq_of_singleton i)) (λ a i. Memᴰ.tail i) z l)

  connected_chain : (xs : List ℕ) → ((x y : ℕ) → Among x xs → Among y xs → next x y ≡ true → next y x ≡ true)
      → connected next xs ≡ true → (x y : ℕ) → Among x xs → Among y xs → Joins xs x y
  connected_chain [] back t x y i j = absurd (Memᴰ.not-nil i)
  connected_chain (h ∷ xs) back t x y i j = chain_join (chain_back back (from_first h xs t x i)) (from_first h xs t y j)

  pub chain_connected : (xs : List ℕ) → Distinct xs → ((x y : ℕ) → Among x xs → Among y xs → Joins xs x y) → connected next xs ≡ true
  unfolding connected
  chain_connected [] d joined = refl
  chain_connected (h ∷ xs) d joined =
      in_none_left (unreached next (suc (length xs)) (h ∷ []) xs) (λ y left.
      let among = unreached_in next (suc (length xs)) (h ∷ []) xs y left in
      let c = joined h y (Memᴰ.head refl) (Memᴰ.tail among) in
      let back = left_before next (suc (length xs)) (h ∷ []) xs (omega arith) (chain_map to_parts (λ a b _ _ n. n) c) left in
      d.0 (unreached_in next (suc (length xs)) (h ∷ []) xs h back))
    where
      to_parts : (z : ℕ) → Among z (h ∷ xs) → Among z (h ∷ []) ⊎ Among z xs
      to_parts z m = ⊎_elim (λ e. inl (Memᴰ.head e)) inr (Memᴰ.cases_cons m)

  -- ---- the same of the numbers below n that pass

  pub picked_chain : (n : ℕ) (p : ℕ → Bool) → ((x y : ℕ) → Picked n p x → Picked n p y → next x y ≡ true → next y x ≡ true)
      → connected next (pick n p) ≡ true → (x y : ℕ) → Picked n p x → Picked n p y → Chain (Picked n p) (λ a b. next a b ≡ true) x y
  picked_chain n p back t x y i j =
      chain_map (pick_in n p) (λ a b _ _ q. q)
      (connected_chain (pick n p) (λ a b u v q. back a b (pick_in n p a u) (pick_in n p b v) q) t x y (in_pick n p x i.0 i.1) (in_pick n p y j.0 j.1))

  pub chain_picked : (n : ℕ) (p : ℕ → Bool) → ((x y : ℕ) → Picked n p x → Picked n p y → Chain (Picked n p) (λ a b. next a b ≡ true) x y)
      → connected next (pick n p) ≡ true
  chain_picked n p joined =
      chain_connected (pick n p) (pick_distinct n p) (λ x y i j.
      chain_map (λ k q. in_pick n p k q.0 q.1) (λ a b _ _ q. q) (joined x y (pick_in n p x i) (pick_in n p y j)))
