-- What the tests have shown of a table, by equations and bounds, so that a value of the code can carry it.
use Rattle.std.specs.Prelude.{◌≡◌, Bool, not, List, ℕ, zero, suc, ◌+◌, ◌-◌, ◌*◌, ◌≤◌, ◌<◌, length, get_or}
use Rattle.std.proofs.Common.{ap, ⊎_elim, lt_trans, not-suc-le-zero, le_of_suc-le-suc, eq-or-lt_of_le, ltb-true, lt-ltb, arith}
use Rattle.std.proofs.Math.Dec.{ltb}
use Rattle.std.proofs.Math.Option.{none}
use Rattle.std.proofs.lemmas.Bool.{not-true}
use Rattle.rules.specs.Below.{lowest}
use Rattle.rules.specs.Table.{Table, rising, ids_below, before, across, triangles_shared}
use Rattle.rules.specs.Job.{most_rows, not_after}
use Rattle.rules.specs.Laws.Below.{lowest_none, none_lowest}
use Rattle.rules.specs.Laws.Truth.{is_true, is_false, not_both, and_first, and_second, and_both}
use Rattle.rules.specs.Reading.Rows.{rising_reads, ids_below_reads, before_reads}
use Rattle.rules.specs.Reading.Closed.{triangles_read}
use Rattle.rules.specs.Reading.Codes.{each_row}
use Rattle.table.specs.Rows.{rows_in, table_in}
use Rattle.table.specs.Ground.{Ground, Grounded}

-- each row passes
abbrev pub Each : Table → (ℕ → Bool) → Type 0
Each t p = lowest t.rows (λ r. not (p r)) ≡ none

-- rules 5 to 7 but for V, and words at whose front the neighbour list stands
abbrev pub Tested : List ℕ → List ℕ → Type 0
Tested bytes neighbours =
    (rows_in bytes ≤ most_rows)
    × Each (table_in bytes) (rising (table_in bytes))
    × (lowest (rows_in bytes) (not_after (table_in bytes)) ≡ none)
    × Each (table_in bytes) (triangles_shared (table_in bytes))
    × (4 * rows_in bytes ≤ length neighbours)
    × ((r c : ℕ) → r < rows_in bytes → c < 4 → get_or neighbours (4 * r + c) 0 ≡ across (table_in bytes) r c)

-- V
abbrev pub IdsTested : List ℕ → ℕ → Type 0
IdsTested bytes ids = Each (table_in bytes) (ids_below (table_in bytes) ids)

pub ground_of : {bytes neighbours : List ℕ} {ids : ℕ} → Tested bytes neighbours → IdsTested bytes ids → Ground bytes neighbours ids
ground_of {bytes} {neighbours} {ids} (few, rise, order, shared, room, at) below =
    let t = table_in bytes in
    record {
      few = few;
      paired = record {
        rising = λ r l. (rising_reads t r).0 (each_row t ids (rising t) rise r l);
        below = λ r l. (ids_below_reads t ids r).0 (each_row t ids (ids_below t ids) below r l);
        ordered = λ r pos l. (before_reads t (r - 1) r).0 (is_true (before t (r - 1) r) (λ f. not_both (and_both (lt-ltb 0 r pos) (ap not f)) (lowest_none t.rows (not_after t) order r l)));
        two = λ r l. (triangles_read t r).0 (each_row t ids (triangles_shared t) shared r l);
      };
      room = room;
      at = at;
    }

pub tested_of : {bytes neighbours : List ℕ} {ids : ℕ} → Ground bytes neighbours ids → Tested bytes neighbours × IdsTested bytes ids
tested_of {bytes} {neighbours} {ids} g =
    let t = table_in bytes in (
      (
        g.few,
        none_lowest t.rows (λ r. not (rising t r)) (λ r l. ap not ((rising_reads t r).1 (g.paired.rising r l))),
        none_lowest t.rows (not_after t) (λ r l. is_false (not_after t r) (λ e.
            not_both ((before_reads t (r - 1) r).1 (g.paired.ordered r (ltb-true 0 r (and_first (ltb 0 r) (not (before t (r - 1) r)) e)) l)) (not-true (before t (r - 1) r) (and_second (ltb 0 r) (not (before t (r - 1) r)) e)))),
        none_lowest t.rows (λ r. not (triangles_shared t r)) (λ r l. ap not ((triangles_read t r).1 (g.paired.two r l))),
        g.room,
        g.at,
      ),
      none_lowest t.rows (λ r. not (ids_below t ids r)) (λ r l. ap not ((ids_below_reads t ids r).1 (g.paired.below r l))),
    )

-- ---- some V is above all ids

above : (n : ℕ) (f : ℕ → ℕ) → (m : ℕ) × ((k : ℕ) → k < n → f k < m)
above zero f = (0, λ k l. absurd (not-suc-le-zero l))
above (suc n) f =
    let (m, b) = above n f in
    (m + f n + 1, λ k l. ⊎_elim (λ (e : k ≡ n). omega (arith, ap f e)) (λ (j : k < n). omega (arith, b k j)) (eq-or-lt_of_le (le_of_suc-le-suc l)))

pub grounded_of : {bytes neighbours : List ℕ} → Tested bytes neighbours → Grounded bytes neighbours
grounded_of {bytes} tested =
    let t = table_in bytes in
    let (m, most) = above t.rows (λ r. (above 4 (t.id r)).0) in
    (m, ground_of tested (none_lowest t.rows (λ r. not (ids_below t m r)) (λ r l. ap not ((ids_below_reads t m r).1 (λ c k. lt_trans ((above 4 (t.id r)).1 c k) (most r l))))))
