-- How long a line is, by how long its numbers are.
use Rattle.std.specs.Prelude.{◌≡◌, List, [], ◌∷◌, ℕ, suc, ◌+◌, ◌*◌, ◌^◌, ◌≤◌, ◌<◌, length, get_or}
use Rattle.std.proofs.Common.{arith, length-append}
use Rattle.lines.specs.Listing.{decimal, spaced, line, word_t, triangle_line}
use Rattle.lines.specs.Put.{Put}
use Rattle.lines.specs.Decimal.{few_digits}

-- each number is below a bound
abbrev pub EachBelow : ℕ → List ℕ → Type 0
EachBelow most [] = Unit
EachBelow most (n ∷ ns) = (n < most) × EachBelow most ns

pub spaced_few : (k : ℕ) (ns : List ℕ) → EachBelow (10 ^ suc k) ns → length (spaced ns) ≤ (k + 2) * length ns
unfolding spaced
spaced_few k [] each = omega arith
spaced_few k (n ∷ ns) each = omega (arith, length-append (32 ∷ decimal n) (spaced ns), few_digits k n each.0, spaced_few k ns each.1)

pub each_below : (most : ℕ) (ns : List ℕ) → ((k : ℕ) → get_or ns k 0 < most) → EachBelow most ns
each_below most [] each = tt
each_below most (n ∷ ns) each = (each 0, each_below most ns (λ k. each (suc k)))

module _ {a b c : ℕ} where
  pub triangle_put : (ids : List ℕ) (k : ℕ) → a ≡ get_or ids (3 * k) 0 → b ≡ get_or ids (3 * k + 1) 0 → c ≡ get_or ids (3 * k + 2) 0
      → {d d' : List ℕ} {at n : ℕ} → Put (line word_t (a ∷ b ∷ c ∷ [])) d at d' n → Put (triangle_line ids k) d at d' n
  unfolding triangle_line
  triangle_put ids k ea eb ec p = rw (← ea, ← eb, ← ec) p
