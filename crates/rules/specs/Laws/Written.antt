-- Buffers with a list written at their front.
use Rattle.std.specs.Prelude.{◌≡◌, ℕ, suc, ◌+◌, ◌-◌, ◌≤◌, ◌<◌, length, get_or, take, replicate}
use Rattle.std.proofs.Math.Path.{refl, sym, ap}
use Rattle.std.proofs.Common.{◌∙◌, add-zero, arith, take-append-drop, drop_of_length-le, length-append, length-drop, length-take-le, drop-cons, drop-drop}
use mathlib.Core.List.{List, [], ◌∷◌, ◌++◌, append-nil, append_assoc}
use Rattle.std.proofs.Math.Numerals.{add-one}
use Rattle.std.proofs.Math.ListN.{set, drop, get_or-append}
use Rattle.std.proofs.lemmas.List.{length-replicate, replicate-append-replicate, drop-append-le}
use Rattle.std.proofs.lemmas.List.Edits.{sets}
use Rattle.std.proofs.Math.Seq.{set-append_seam, append_snoc, drop-append-add}
use Rattle.rules.specs.Below.{tabulate}
use Rattle.rules.specs.Job.{written}
use Rattle.rules.specs.Laws.Lists.{tabulate_more, tabulate_length}

module _ {ℓ} {A : Type ℓ} where
  pub written_none : (d : List A) → d ≡ written [] d
  unfolding written
  written_none d = refl

  pub written_length : (xs d : List A) → length xs ≤ length d → length (written xs d) ≡ length d
  unfolding written
  written_length xs d l = simp (length-append, length-drop) (omega arith)

  -- one member more
  pub written_snoc : (xs : List A) (y : A) (d : List A) → length xs < length d → set (written xs d) (length xs) y ≡ written (xs ++ y ∷ []) d
  unfolding written
  written_snoc xs y d l =
      ap (λ (r : List A). set (xs ++ r) (length xs) y) (drop-cons d (length xs) y l)
      ∙ set-append_seam xs (get_or d (length xs) y) (drop (suc (length xs)) d) y
      ∙ sym (append_snoc xs y (drop (suc (length xs)) d))
      ∙ ap (λ (n : ℕ). (xs ++ y ∷ []) ++ drop n d) (sym (length-append xs (y ∷ []) ∙ add-one (length xs)))

  -- several members more
  pub written_run : (ys xs d : List A) (n : ℕ) → n ≡ length xs → n + length ys ≤ length d → sets (written xs d) n ys ≡ written (xs ++ ys) d
  written_run [] xs d n e l = ap (λ (zs : List A). written zs d) (sym (append-nil xs))
  written_run (y ∷ ys) xs d n e l =
      rw e (ap (λ (zs : List A). sets zs (suc (length xs)) ys) (written_snoc xs y d (omega arith)))
      ∙ written_run ys (xs ++ y ∷ []) d (suc n) (omega (arith, length-append xs (y ∷ []))) (omega arith)
      ∙ ap (λ (zs : List A). written zs d) (append_snoc xs y ys)

  -- one run of stores behind another
  pub sets_more : (xs ys d : List A) (p q : ℕ) → q ≡ p + length xs → sets (sets d p xs) q ys ≡ sets d p (xs ++ ys)
  sets_more [] ys d p q e = ap (λ (k : ℕ). sets d k ys) (e ∙ add-zero p)
  sets_more (x ∷ xs) ys d p q e = sets_more xs ys (set d p x) (suc p) q (omega arith)

  pub written_more : (n : ℕ) (f : ℕ → A) (d : List A) → n < length d → set (written (tabulate n f) d) n (f n) ≡ written (tabulate (n + 1) f) d
  written_more n f d l =
      ap (λ (k : ℕ). set (written (tabulate n f) d) k (f n)) (sym (tabulate_length n f))
      ∙ written_snoc (tabulate n f) (f n) d (rw (tabulate_length n f) l)
      ∙ ap (λ (xs : List A). written xs d) (sym (tabulate_more n f))

-- what stands at the front
pub written_at : (xs d : List ℕ) (k : ℕ) → k < length xs → get_or (written xs d) k 0 ≡ get_or xs k 0
unfolding written
written_at xs d k l = get_or-append xs (drop (length xs) d) 0 k l

-- numbers cleared to zero
pub cleared_more : (n : ℕ) (d : List ℕ) → n < length d → set (written (replicate n 0) d) n 0 ≡ written (replicate (n + 1) 0) d
cleared_more n d l =
    ap (λ (k : ℕ). set (written zeros d) k 0) (sym full) ∙ written_snoc zeros 0 d (rw full l) ∙ ap (λ (xs : List ℕ). written xs d) (replicate-append-replicate n 1 0)
  where
    zeros : List ℕ
    zeros = replicate n 0

    full : length zeros ≡ n
    full = length-replicate {A = ℕ} n 0

-- a list as long as the buffer
pub written_whole : (xs d : List ℕ) → length d ≤ length xs → written xs d ≡ xs
unfolding written
written_whole xs d l = ap (λ (zs : List ℕ). xs ++ zs) (drop_of_length-le d l) ∙ append-nil xs

-- a list written to a front that is lent by itself
pub written_front : (xs d : List ℕ) (n : ℕ) → length xs ≤ n → n ≤ length d → written xs (take n d) ++ drop n d ≡ written xs d
unfolding written
written_front xs d n l m =
    append_assoc xs (drop (length xs) (take n d)) (drop n d)
    ∙ ap (λ (zs : List ℕ). xs ++ zs) (sym (drop-append-le (length xs) (take n d) (drop n d) (rw (length-take-le n d m) l)) ∙ ap (drop (length xs)) (take-append-drop n d))

-- a longer list over a shorter one
pub written_over : (ys xs d : List ℕ) → length xs ≤ length ys → written ys (written xs d) ≡ written ys d
unfolding written
written_over ys xs d l = ap (λ (zs : List ℕ). ys ++ zs) (behind (length ys) l)
  where
    behind : (n : ℕ) → length xs ≤ n → drop n (xs ++ drop (length xs) d) ≡ drop n d
    behind n l =
        let split : n ≡ length xs + (n - length xs) = omega arith in
        ap (λ (k : ℕ). drop k (xs ++ drop (length xs) d)) split ∙ drop-append-add xs (drop (length xs) d) (n - length xs) ∙ drop-drop (n - length xs) (length xs) d
        ∙ ap (λ (k : ℕ). drop k d) (sym split)
