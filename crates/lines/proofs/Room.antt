-- How long a line is, by how long its numbers are.
use Rattle.std.specs.Prelude.{List, [], ◌∷◌, ℕ, suc, ◌+◌, ◌*◌, ◌^◌, ◌≤◌, ◌<◌, length, get_or}
use Rattle.std.proofs.Common.{arith}
use Rattle.rules.specs.Job.{most_proposals}
use Rattle.lines.specs.Listing.{line, word_done, word_refused, word_p, word_t, answer_line}
use Rattle.lines.specs.Lines.{line_length}
use Rattle.lines.specs.Room.{EachBelow, spaced_few, each_below}

-- numbers of at most k + 1 digits, each with its space
line_few : (k : ℕ) (word ns : List ℕ) → EachBelow (10 ^ suc k) ns → length (line word ns) ≤ length word + (k + 2) * length ns + 1
line_few k word ns each = omega (arith, line_length word ns, spaced_few k ns each)

-- the first line of a listing
module _ {a b : ℕ} (la : a < 18446744073709551616) (lb : b < 18446744073709551616) where
  pub done_few : {c : ℕ} → c < 18446744073709551616 → length (line word_done (a ∷ b ∷ c ∷ [])) ≤ 68
  done_few {c} lc = line_few 19 word_done (a ∷ b ∷ c ∷ []) (omega arith, (omega arith, (omega arith, tt)))

-- the line of a refusal
pub refused_few : (ns : List ℕ) → ((k : ℕ) → get_or ns k 0 < 18446744073709551616) → length (line word_refused ns) ≤ 8 + 21 * length ns
refused_few ns each = omega (arith, line_few 19 word_refused ns (each_below (10 ^ 20) ns (λ k. omega (arith, each k))))

pub answer_few : (answers : List ℕ) (k : ℕ) → k < most_proposals → get_or answers k 0 < 256 → length (answer_line answers k) ≤ 12
unfolding answer_line
answer_few answers k l m = line_few 3 word_p (k ∷ get_or answers k 0 ∷ []) (omega arith, (omega arith, tt))

module _ {a b c : ℕ} where
  pub triangle_few : a < 4294967296 → b < 4294967296 → c < 4294967296 → length (line word_t (a ∷ b ∷ c ∷ [])) ≤ 35
  triangle_few la lb lc = line_few 9 word_t (a ∷ b ∷ c ∷ []) (omega arith, (omega arith, (omega arith, tt)))
