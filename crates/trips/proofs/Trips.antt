-- The two round trips, and what each call leaves, over the calls' answers.
use Rattle.std.specs.Prelude.{◌≡◌, List, ℕ, ◌*◌, ◌≤◌, ◌<◌, ℤ, length, get_or, take, drop}
use Rattle.std.proofs.Common.{ap, ◌∙◌, take_at}
use Rattle.std.proofs.Math.Option.{none}
use Rattle.rules.specs.Job.{written}
use Rattle.rules.specs.Stl.{file_length, facets_of, file_of, Wrote, write_facets, count_in, units_in, Read, read_file}
use Rattle.rules.specs.Laws.Stl.{file_length_lem}
use Rattle.trips.proofs.Writable.{wrote_whole}
use Rattle.trips.proofs.Readable.{read_whole, read_verdict}
use Rattle.trips.proofs.Forth.{file_count, file_readable, file_units}
use Rattle.trips.proofs.Back.{units_length, units_file, units_writable}
pub use Rattle.trips.specs.Writable.{Writable}
pub use Rattle.trips.proofs.Writable.{wrote_exactly}
pub use Rattle.trips.specs.Readable.{Sound, Readable}
pub use Rattle.trips.proofs.Readable.{read_exactly}

-- ---- code 0 says that the list, or the file, is one of those that are taken

wrote_writable : (units : List ℤ) (lent : List ℕ) → (write_facets units lent).verdict.code ≡ 0 → Writable units (length lent)
unfolding write_facets
wrote_writable units lent zero_code = (wrote_exactly units (length lent)).0 zero_code

read_readable : (bytes : List ℕ) (lent : List ℤ) → (read_file bytes lent).verdict.code ≡ 0 → Readable bytes (length lent)
read_readable bytes lent zero_code = (read_exactly bytes (length lent)).0 (rw (read_verdict bytes lent) at zero_code)

-- ---- what each call leaves

front {ℓ} : {A : Type ℓ} (xs lent : List A) (n : ℕ) → length xs ≡ n → take n (written xs lent) ≡ xs
unfolding written
front xs lent n e = take_at xs (drop (length xs) lent) n e

-- Code 0 of the facet writer: the lent bytes begin with the file of the list, and all behind it is unchanged.
pub wrote_front : (units : List ℤ) (lent : List ℕ) → (write_facets units lent).verdict.code ≡ 0
    → ((write_facets units lent).left ≡ written (file_of units) lent) × (take (file_length (facets_of units)) (write_facets units lent).left ≡ file_of units)
wrote_front units lent zero_code =
    let left : (write_facets units lent).left ≡ written (file_of units) lent = ap (λ (w : Wrote). w.left) (wrote_whole units lent (wrote_writable units lent zero_code)) in
    (left, ap (take (file_length (facets_of units))) left ∙ front (file_of units) lent (file_length (facets_of units)) (file_length_lem units))

-- Code 0 of the reader: it tells the file's count, the lent units begin with the file's nine a facet, and all behind them is unchanged.
pub read_front : (bytes : List ℕ) (lent : List ℤ) → (read_file bytes lent).verdict.code ≡ 0
    → ((read_file bytes lent).left ≡ written (units_in bytes) lent) × ((read_file bytes lent).facets ≡ count_in bytes)
    × (take (9 * count_in bytes) (read_file bytes lent).left ≡ units_in bytes)
read_front bytes lent zero_code =
    let whole = read_whole bytes lent (read_readable bytes lent zero_code) in
    let left : (read_file bytes lent).left ≡ written (units_in bytes) lent = ap (λ (r : Read). r.left) whole in
    (left, ap (λ (r : Read). r.facets) whole, ap (take (9 * count_in bytes)) left ∙ front (units_in bytes) lent (9 * count_in bytes) (units_length bytes))

-- ---- both ways round

-- Written and read again: where the facet writer takes a list, the reader takes its file, in any room for the list, and leaves the list.
pub write_read : (units : List ℤ) (lent : List ℕ) → (write_facets units lent).verdict.code ≡ 0 → (again : List ℤ) → length units ≤ length again
    → read_file (file_of units) again ≡ record { verdict = record { code = 0; place = 0 }; facets = facets_of units; off = none; left = written units again }
write_read units lent zero_code again room =
    let w = wrote_writable units lent zero_code in
    read_whole (file_of units) again (file_readable units (length lent) w (length again) room)
    ∙ rw (file_count units (length lent) w, file_units units (length lent) w)

-- Read and written again: where the reader takes a file, the facet writer takes its units, in any room for the file, and leaves the same bytes.
pub read_write : (bytes : List ℕ) → ((k : ℕ) → get_or bytes k 0 < 256) → (lent : List ℤ) → (read_file bytes lent).verdict.code ≡ 0
    → (again : List ℕ) → length bytes ≤ length again
    → write_facets (units_in bytes) again ≡ record { verdict = record { code = 0; place = 0 }; left = written bytes again }
read_write bytes small lent zero_code again room =
    let r = read_readable bytes lent zero_code in
    wrote_whole (units_in bytes) again (units_writable bytes (length lent) (length again) r room)
    ∙ rw (units_file bytes small (length lent) r)
