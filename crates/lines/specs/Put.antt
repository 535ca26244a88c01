-- Texts put into a buffer, one behind the other.
use Rattle.std.specs.Prelude.{◌≡◌, refl, List, [], ◌∷◌, ◌++◌, ℕ, suc, ◌+◌, ◌≤◌, ◌<◌, length, set, drop}
use Rattle.std.proofs.Common.{sym, ap, ◌∙◌, le_antisymm, add-zero, add-suc, suc-add, arith, length-append}
use Rattle.std.proofs.lemmas.List.Edits.{sets, sets-eq}
use Rattle.std.proofs.Math.Seq.{length-sets}
use Rattle.rules.specs.Job.{written}

-- the text stands in the buffer from a place on, all else there is as before, and `next` is the place behind it
pub record Put (text : List ℕ) (before : List ℕ) (at : ℕ) (after : List ℕ) (next : ℕ) : Type 0 where
  pub behind : next ≡ at + length text
  pub is : after ≡ sets before at text

sets_append : (xs ys d : List ℕ) (at : ℕ) → sets (sets d at xs) (at + length xs) ys ≡ sets d at (xs ++ ys)
sets_append [] ys d at = rw (add-zero at)
sets_append (x ∷ xs) ys d at =
    ap (λ (n : ℕ). sets (sets (set d at x) (suc at) xs) n ys) (add-suc at (length xs) ∙ sym (suc-add at (length xs)))
    ∙ sets_append xs ys (set d at x) (suc at)

pub put_none : (d : List ℕ) (at : ℕ) → Put [] d at d at
put_none d at = record { behind = sym (add-zero at); is = refl }

pub put_more : {xs ys d d' d'' : List ℕ} {at n m : ℕ} → Put xs d at d' n → Put ys d' n d'' m → Put (xs ++ ys) d at d'' m
put_more {xs} {ys} {d} {at = at} p q = record {
  behind = omega (arith, p.behind, q.behind, length-append xs ys);
  is = q.is ∙ rw (p.is, p.behind) (sets_append xs ys d at);
}

-- put at the front of a buffer
pub put_front : {xs d d' : List ℕ} {n : ℕ} → Put xs d 0 d' n → length xs ≤ length d → (n ≡ length xs) × (d' ≡ written xs d)
unfolding written
put_front {xs} {d} p l = (omega (arith, p.behind), p.is ∙ sets-eq xs d 0 (omega arith) ∙ ap (λ (n : ℕ). xs ++ drop n d) {x = 0 + length xs} {y = length xs} (omega arith))

pub put_kept : {xs d d' : List ℕ} {at n : ℕ} → Put xs d at d' n → length d' ≡ length d
put_kept {xs} {d} {at = at} p = ap length p.is ∙ length-sets d at xs

-- what is written at the front of a buffer lies within it
pub front_within : (xs d : List ℕ) {d' : List ℕ} {n : ℕ} → (n ≡ length xs) × (d' ≡ written xs d) → n ≤ length d'
unfolding written
front_within xs d (en, ed) = omega (arith, en, ap length ed, length-append xs (drop (length xs) d))

-- ---- a text put in turns

-- after i of `count` turns `f i` stands there
pub record Turns (f : ℕ → List ℕ) (count : ℕ) (before : List ℕ) (at : ℕ) (after : List ℕ) (next i : ℕ) : Type 0 where
  pub upto : i ≤ count
  pub put : Put (f i) before at after next

pub turns_begin : (f : ℕ → List ℕ) (count : ℕ) (d : List ℕ) (at : ℕ) → f 0 ≡ [] → Turns f count d at d at 0
turns_begin f count d at e = record { upto = omega arith; put = rw e (put_none d at) }

pub one_turn : {f : ℕ → List ℕ} {count : ℕ} {d d' d'' ys : List ℕ} {at n m i : ℕ} → Turns f count d at d' n i → i < count → f (i + 1) ≡ f i ++ ys → Put ys d' n d'' m → Turns f count d at d'' m (i + 1)
one_turn t l e q = record { upto = omega arith; put = rw e (put_more t.put q) }

pub turns_end : {f : ℕ → List ℕ} {count : ℕ} {d d' : List ℕ} {at n i : ℕ} → Turns f count d at d' n i → count ≤ i → Put (f count) d at d' n
turns_end t l = rw (le_antisymm t.upto l) at t.put
