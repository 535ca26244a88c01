-- Words and numbers, put in turns.
use Rattle.std.specs.Prelude.{◌≡◌, refl, List, [], ◌∷◌, ◌++◌, ℕ, ◌+◌, ◌-◌, ◌/◌, ◌%◌, ◌≤◌, ◌<◌, length, take, drop}
use Rattle.std.proofs.Common.{sym, ap, ◌∙◌, append_assoc, arith, drop-drop, length-append}
use Rattle.std.proofs.lemmas.List.Edits.{sets-eq}
use Rattle.std.proofs.Math.Seq.{take-length}
use borrow.Rule.Slice.PartMut.{put_mid}
use Rattle.lines.specs.Listing.{decimal, spaced, line}
use Rattle.lines.specs.Decimal.{decimal_one, decimal_more}
use Rattle.lines.specs.Put.{Put, put_more, put_kept, Turns, turns_begin, turns_end}

-- a word that is copied
pub word_put : (word d : List ℕ) {copied : List ℕ} (at : ℕ) → copied ≡ word → at + length word ≤ length d → Put word d at (put_mid at (at + length word - at) d copied) (at + length word)
word_put word d at e room = record {
  behind = refl;
  is =
      let rest : drop (at + length word - at) (drop at d) ≡ drop (at + length word) d = drop-drop (at + length word - at) at d ∙ ap (λ (n : ℕ). drop n d) {x = at + (at + length word - at)} {y = at + length word} (omega arith) in
      rw e (ap (λ (behind : List ℕ). take at d ++ (word ++ behind)) rest ∙ sym (append_assoc (take at d) word (drop (at + length word) d)) ∙ sym (sets-eq word d at room));
}

-- ---- a number, by its last digit and the number that the others are

module _ {n : ℕ} (small : n < 10) where
  pub digit_long : length (decimal n) ≡ 1
  digit_long = ap length (decimal_one n small)

  pub digit_put : {d d' : List ℕ} {at m : ℕ} → Put ((48 + n) ∷ []) d at d' m → Put (decimal n) d at d' m
  digit_put p = rw (decimal_one n small) p

module _ {n : ℕ} (large : 10 ≤ n) where
  split : length (decimal n) ≡ length (decimal (n / 10)) + 1
  split = ap length (decimal_more n large) ∙ length-append (decimal (n / 10)) ((48 + n % 10) ∷ [])

  pub front_shorter : length (decimal (n / 10)) < length (decimal n)
  front_shorter = omega (arith, split)

  pub last_room : {d d' : List ℕ} {at m : ℕ} → at + length (decimal n) ≤ length d → Put (decimal (n / 10)) d at d' m → m < length d'
  last_room room p = omega (arith, split, p.behind, put_kept p)

  pub last_put : {d d' d'' : List ℕ} {at m l : ℕ} → Put (decimal (n / 10)) d at d' m → Put ((48 + n % 10) ∷ []) d' m d'' l → Put (decimal n) d at d'' l
  last_put p q = rw (decimal_more n large) (put_more p q)

-- ---- a number of several at each turn

pub spaced_append : (xs ys : List ℕ) → spaced (xs ++ ys) ≡ spaced xs ++ spaced ys
unfolding spaced
spaced_append [] ys = refl
spaced_append (x ∷ xs) ys = ap (λ (zs : List ℕ). (32 ∷ decimal x) ++ zs) (spaced_append xs ys) ∙ sym (append_assoc (32 ∷ decimal x) (spaced xs) (spaced ys))

abbrev pub NumberTurns : List ℕ → List ℕ → ℕ → List ℕ → ℕ → ℕ → Type 0
NumberTurns ns d at d' n i = Turns (λ k. spaced (take k ns)) (length ns) d at d' n i

pub number_begins : (ns d : List ℕ) (at : ℕ) → NumberTurns ns d at d at 0
unfolding spaced
number_begins ns d at = turns_begin (λ k. spaced (take k ns)) (length ns) d at refl

pub number_ends : (ns : List ℕ) {d d' : List ℕ} {at n i : ℕ} → NumberTurns ns d at d' n i → length ns ≤ i → Put (spaced ns) d at d' n
number_ends ns t l = rw (take-length ns) at (turns_end t l)

-- ---- a line

pub line_length : (word ns : List ℕ) → length (line word ns) ≡ length word + length (spaced ns) + 1
unfolding line
line_length word ns = length-append (word ++ spaced ns) (10 ∷ []) ∙ ap (λ (n : ℕ). n + 1) (length-append word (spaced ns))

pub line_put : {word d d' d'' d''' : List ℕ} {at n m l : ℕ} (ns : List ℕ) → Put word d at d' n → Put (spaced ns) d' n d'' m → Put (10 ∷ []) d'' m d''' l → Put (line word ns) d at d''' l
unfolding line
line_put ns p q r = put_more (put_more p q) r
