-- Laws of words: the bytes one by one, a word of a part, how large a word can be, and words written down.
use Rattle.std.specs.Prelude.{◌≡◌, refl, ◌↔◌, List, [], ◌∷◌, ◌++◌, ℕ, zero, suc, ◌+◌, ◌*◌, ◌/◌, ◌%◌, ◌^◌, ◌≤◌, ◌<◌, length, get_or, take, drop}
use Rattle.std.proofs.Common.{sym, ap, ◌∙◌, subst, add_assoc, add-zero, zero-add, suc-add, mul-zero, zero-lt-suc, not-suc-le-zero, le_of_suc-le-suc, pow-suc, arith, get_or-take, get_or-drop, get_or-append-add}
use Rattle.std.proofs.Math.Nat.{mod-add-div}
use Rattle.rules.specs.Words.{word, bytes_of, words}

pub word_four : (bytes : List ℕ) (place : ℕ)
    → word 4 bytes place ≡ get_or bytes place 0 + 256 * (get_or bytes (place + 1) 0 + 256 * (get_or bytes (place + 2) 0 + 256 * get_or bytes (place + 3) 0))
unfolding word
word_four bytes place = rw (add_assoc place 1 1, add_assoc place 2 1, mul-zero, add-zero)

-- a word of a part is one of the whole
pub word_part : (width : ℕ) (bytes : List ℕ) (start size place : ℕ) → place + width ≤ size
    → word width (take size (drop start bytes)) place ≡ word width bytes (start + place)
unfolding word
word_part zero bytes start size place l = refl
word_part (suc width) bytes start size place l =
    rw (get_or-take size (drop start bytes) place 0 (omega arith), get_or-drop start bytes place 0, word_part width bytes start size (place + 1) (omega arith), add_assoc start place 1)

-- bytes below 256 make a word below 256 ^ width
pub word_below : (width : ℕ) (bytes : List ℕ) → ((k : ℕ) → get_or bytes k 0 < 256) → (place : ℕ) → word width bytes place < 256 ^ width
unfolding word
word_below zero bytes small place = zero-lt-suc 0
word_below (suc width) bytes small place = rw pow-suc (omega (arith, small place, word_below width bytes small (place + 1)))

-- a word is zero exactly if each of its two parts is
pub word_zero : (a b : ℕ) (bytes : List ℕ) (place : ℕ) → (word (a + b) bytes place ≡ 0) ↔ ((word a bytes place ≡ 0) × (word b bytes (place + a) ≡ 0))
unfolding word
word_zero zero b bytes place = (λ e. (refl, subst (λ (k : ℕ). word b bytes k ≡ 0) (sym (add-zero place)) (rw (zero-add b) at e)), λ (_, e). rw (zero-add b) (subst (λ (k : ℕ). word b bytes k ≡ 0) (add-zero place) e))
word_zero (suc a) b bytes place =
    let both = word_zero a b bytes (place + 1) in
    let more : word (suc a + b) bytes place ≡ get_or bytes place 0 + 256 * word (a + b) bytes (place + 1) = ap (λ (n : ℕ). word n bytes place) (suc-add a b) in
    let next : place + 1 + a ≡ place + suc a = omega arith in (
      λ e. let (x, y) = both.0 (omega (arith, more)) in (omega (arith, more, x), subst (λ (k : ℕ). word b bytes k ≡ 0) next y),
      λ (x, y). let z = both.1 (omega arith, subst (λ (k : ℕ). word b bytes k ≡ 0) (sym next) y) in omega (arith, more),
    )

-- ---- words written down

pub bytes_length : (width n : ℕ) → length (bytes_of width n) ≡ width
bytes_length zero n = refl
bytes_length (suc width) n = ap suc (bytes_length width (n / 256))

-- a word after so many bytes
pub word_after : (width : ℕ) (xs ys : List ℕ) (place k : ℕ) → place ≡ length xs + k → word width (xs ++ ys) place ≡ word width ys k
unfolding word
word_after zero xs ys place k e = refl
word_after (suc width) xs ys place k e =
    rw (word_after width xs ys (place + 1) (k + 1) (omega arith), e, get_or-append-add xs ys k 0)

-- the bytes of a number stand for it
pub word_bytes : (width n : ℕ) (rest : List ℕ) → n < 256 ^ width → word width (bytes_of width n ++ rest) 0 ≡ n
unfolding word
word_bytes zero n rest l = omega arith
word_bytes (suc width) n rest l =
    rw (word_after width (n % 256 ∷ []) (bytes_of width (n / 256) ++ rest) 1 0 refl, word_bytes width (n / 256) rest (omega (arith, pow-suc 256 width))) (mod-add-div n 256)

-- and bytes below 256 are those of the number that they stand for
pub bytes_word : (bytes : List ℕ) → ((k : ℕ) → get_or bytes k 0 < 256) → bytes_of (length bytes) (word (length bytes) bytes 0) ≡ bytes
unfolding word
bytes_word [] small = refl
bytes_word (b ∷ bytes) small =
    let w = word (length bytes) bytes 0 in
    let whole : b + 256 * word (length bytes) (b ∷ bytes) 1 ≡ b + 256 * w = ap (λ (x : ℕ). b + 256 * x) (word_after (length bytes) (b ∷ []) bytes 1 0 refl) in
    let low : (b + 256 * w) % 256 ≡ b = omega (arith, small 0) in
    let high : (b + 256 * w) / 256 ≡ w = omega (arith, small 0) in
    ap (λ (n : ℕ). n % 256 ∷ bytes_of (length bytes) (n / 256)) whole ∙ rw (low, high) (ap (λ (l : List ℕ). b ∷ l) (bytes_word bytes (λ k. small (suc k))))

-- word i of words
pub words_at : (ns rest : List ℕ) (i : ℕ) → i < length ns → get_or ns i 0 < 256 ^ 4 → word 4 (words ns ++ rest) (4 * i) ≡ get_or ns i 0
words_at [] rest i l small = absurd (not-suc-le-zero l)
words_at (n ∷ ns) rest zero l small = word_bytes 4 n (words ns ++ rest) small
words_at (n ∷ ns) rest (suc i) l small =
    word_after 4 (bytes_of 4 n) (words ns ++ rest) (4 * suc i) (4 * i) (omega arith) ∙ words_at ns rest i (le_of_suc-le-suc l) small
