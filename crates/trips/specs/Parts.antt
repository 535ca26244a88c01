-- Sections of a list of bytes.
use Rattle.std.specs.Prelude.{◌≡◌, true, false, ◌⊎◌, ltb, length, get_or, take, drop}
use Rattle.std.proofs.Math.Path.{sym, ap}
use Rattle.std.proofs.Common.{◌∙◌, inl, inr, add-zero, mul-zero, mul-suc, not-suc-le-zero, eq-or-lt_of_le, le_of_suc-le-suc, arith, length-drop, take-add, drop-drop, take_all, drop_at, get_or-take, get_or-drop, ltb-true, ltb-false}
use Rattle.std.proofs.Math.Logic.{⊎_elim}
use mathlib.Core.List.{List, ◌++◌, append_assoc}
use Prim.Native.Nat.{ℕ, zero, suc, ◌+◌, ◌*◌, ◌≤◌, ◌<◌}
use Rattle.std.proofs.Math.ListN.{length-append, get_or-eq_default}
use Rattle.std.proofs.Math.Seq.{take_at}
use Rattle.rules.specs.Below.{gather}
use Rattle.rules.specs.Words.{word, bytes_of}
use Rattle.rules.specs.Job.{section}
use Rattle.rules.specs.Laws.Truth.{true_or_false}
use Rattle.rules.specs.Laws.Words.{word_part, bytes_word}
use Rattle.rules.specs.Laws.Lists.{part_length}

-- ---- a list is its sections, one after the other

pub section_split : (bytes : List ℕ) (place a b : ℕ) → section bytes place (a + b) ≡ section bytes place a ++ section bytes (place + a) b
section_split bytes place a b = take-add a b (drop place bytes) ∙ ap (λ (l : List ℕ). section bytes place a ++ take b l) (drop-drop a place bytes)

-- sections of one size
pub sections : (bytes : List ℕ) (start size n : ℕ) → section bytes start (size * n) ≡ gather n (λ f. section bytes (start + size * f) size)
unfolding gather
sections bytes start size zero = rw mul-zero
sections bytes start size (suc n) =
    ap (section bytes start) (mul-suc size n)
    ∙ section_split bytes start (size * n) size
    ∙ ap (λ (l : List ℕ). l ++ section bytes (start + size * n) size) (sections bytes start size n)

-- all that stands behind a place
pub sections_behind : (bytes : List ℕ) (start size n : ℕ) → length bytes ≡ start + size * n → drop start bytes ≡ gather n (λ f. section bytes (start + size * f) size)
sections_behind bytes start size n e = sym (take_all (size * n) (drop start bytes) (omega (arith, length-drop start bytes))) ∙ sections bytes start size n

-- ---- lists of one size, gathered: each stands in its own section

module _ (size : ℕ) (g : ℕ → List ℕ) (sized : (f : ℕ) → length (g f) ≡ size) where
  gathered_length : (n : ℕ) → length (gather n g) ≡ size * n
  unfolding gather
  gathered_length zero = sym (mul-zero size)
  gathered_length (suc n) = length-append (gather n g) (g n) ∙ rw (gathered_length n, sized n) (sym (mul-suc size n))

  gathered_section : (n f : ℕ) → f < n → (rest : List ℕ) → section (gather n g ++ rest) (size * f) size ≡ g f
  unfolding gather
  gathered_section zero f l rest = absurd (not-suc-le-zero l)
  gathered_section (suc n) f l rest =
      ap (λ (bytes : List ℕ). section bytes (size * f) size) (append_assoc (gather n g) (g n) rest)
      ∙ ⊎_elim
      (λ (e : f ≡ n). rw e (ap (take size) (drop_at (gather n g) (g n ++ rest) (size * n) (gathered_length n)) ∙ take_at (g n) rest size (sized n)))
      (λ below. gathered_section n f below (g n ++ rest))
      (eq-or-lt_of_le (le_of_suc-le-suc l))

  -- a word inside one of them
  pub gathered_word : (n f : ℕ) → f < n → (rest : List ℕ) (width place : ℕ) → place + width ≤ size
      → word width (gather n g ++ rest) (size * f + place) ≡ word width (g f) place
  gathered_word n f l rest width place fits =
      sym (word_part width (gather n g ++ rest) (size * f) size place fits) ∙ ap (λ (bytes : List ℕ). word width bytes place) (gathered_section n f l rest)

-- ---- the bytes of a word

module _ (bytes : List ℕ) (small : (k : ℕ) → get_or bytes k 0 < 256) where
  section_small : (place size k : ℕ) → place + size ≤ length bytes → get_or (section bytes place size) k 0 < 256
  section_small place size k l = go (true_or_false (ltb k size))
    where
      go : (ltb k size ≡ true) ⊎ (ltb k size ≡ false) → get_or (section bytes place size) k 0 < 256
      go (inl t) = rw (get_or-take size (drop place bytes) k 0 (ltb-true k size t), get_or-drop place bytes k 0) (small (place + k))
      go (inr t) = rw (get_or-eq_default (section bytes place size) 0 {n = k} (omega (arith, ltb-false k size t, part_length bytes place size l))) (omega arith)

  -- a section is the bytes of the word that stands there
  pub section_word : (place width : ℕ) → place + width ≤ length bytes → section bytes place width ≡ bytes_of width (word width bytes place)
  section_word place width l =
      let part = section bytes place width in
      sym (bytes_word part (λ k. section_small place width k l))
      ∙ ap (λ (n : ℕ). bytes_of n (word n part 0)) (part_length bytes place width l)
      ∙ ap (bytes_of width) (word_part width bytes place width 0 (omega arith) ∙ ap (word width bytes) (add-zero place))
