-- The table that the bytes of a row section stand for, and what a search for a row gives.
use Rattle.std.specs.Prelude.{◌≡◌, refl, List, ℕ, ◌+◌, ◌*◌, ◌/◌, ◌^◌, ◌<◌, ◌≤◌, length, get_or}
use Rattle.std.proofs.Common.{ap, ◌∙◌, arith}
use Rattle.std.proofs.Math.Option.{none}
use Rattle.rules.specs.Below.{lowest}
use Rattle.rules.specs.Words.{word}
use Rattle.rules.specs.Table.{Table, table_of}
use Rattle.rules.specs.Job.{track, rows_table, most_rows, bad_row, not_after}
use Rattle.rules.specs.Laws.Lists.{tabulate_at}
use Rattle.rules.specs.Laws.Words.{word_below}
use Rattle.rules.specs.Reading.Rows.{Rising}
use Rattle.rules.specs.Reading.Codes.{all_rising}

-- how many rows a section has
unfoldable pub rows_in : List ℕ → ℕ
rows_in bytes = length bytes / 16

-- the id of a row at a corner, as `rules` has it
unfoldable pub id_in : List ℕ → ℕ → ℕ → ℕ
id_in bytes r c = (rows_table track (rows_in bytes) bytes).id r c

-- the table of a row section
abbrev pub table_in : List ℕ → Table
table_in bytes = record { corners = 4; rows = rows_in bytes; id = id_in bytes }

pub table_in_lem : (bytes : List ℕ) → table_in bytes ≡ rows_table track (rows_in bytes) bytes
unfolding id_in rows_table table_of
table_in_lem bytes = refl

pub id_word : (bytes : List ℕ) (r c : ℕ) → r < rows_in bytes → c < 4 → id_in bytes r c ≡ word 4 bytes (16 * r + 4 * c)
unfolding id_in rows_table table_of
id_word bytes r c l m =
    tabulate_at (4 * rows_in bytes) (λ k. word 4 bytes (4 * k)) 0 (4 * r + c) (omega arith) ∙ ap (word 4 bytes) (omega arith)

-- an id is a word of four bytes
pub id_fits : (bytes : List ℕ) → ((k : ℕ) → get_or bytes k 0 < 256) → (r c : ℕ) → r < rows_in bytes → c < 4 → id_in bytes r c < 256 ^ 4
id_fits bytes small r c l m = rw (id_word bytes r c l m) (word_below 4 bytes small (16 * r + 4 * c))

-- ---- what each code has shown of a row section

-- no more rows than the limit, and each rises
pub record RisingRows (bytes : List ℕ) : Type 0 where
  pub few : rows_in bytes ≤ most_rows
  pub rise : (r : ℕ) → r < rows_in bytes → Rising (table_in bytes) r

-- no row breaks rules 5 and 6
pub record OrderedRows (bytes : List ℕ) (ids : ℕ) : Type 0 where
  pub few : rows_in bytes ≤ most_rows
  pub rows : lowest (rows_in bytes) (bad_row (table_in bytes) ids) ≡ none
  pub order : lowest (rows_in bytes) (not_after (table_in bytes)) ≡ none

pub ordered_rise : {bytes : List ℕ} {ids : ℕ} → OrderedRows bytes ids → RisingRows bytes
ordered_rise {bytes} {ids} o = record { few = o.few; rise = all_rising (table_in bytes) ids o.rows }
