-- The facet writer's answer, as `rules` has it.
use Rattle.std.specs.Prelude.{◌≡◌, refl, Bool, true, false, not, ◌||◌, cond, List, [], ◌∷◌, ℕ, ◌+◌, ◌/◌, ◌%◌, ◌≤◌, ◌<◌, ltb, eqb, ℤ, pos, length, get_or, Result, Ok, Err}
use Rattle.std.proofs.Common.{sym, ap, ◌∙◌, arith, ltb-false}
use Rattle.std.proofs.Math.Option.{Option, some, none}
use Rattle.rules.specs.Below.{found, lowest}
use Rattle.rules.specs.First.{given, Verdict, first_match}
use Rattle.rules.specs.Points.{in_range}
use Rattle.rules.specs.Job.{written}
use Rattle.rules.specs.Stl.{most_facets, file_length, facets_of, file_of, write_tests, Wrote, write_facets}
use Rattle.rules.specs.Laws.Truth.{or_no_second}
use Rattle.rules.specs.Reading.Points.{range_reads}
use Rattle.trips.specs.Writable.{Writable}
use Rattle.trips.proofs.Writable.{wrote_exactly}
use Rattle.stl.specs.Corners.{Numbers, corner_in, grid_numbers}
use Rattle.stl.specs.declared.writer.Refusal.{Refusal}
use Rattle.stl.specs.declared.writer.Refusal.TheVariants.{Facets, Number, Room}

-- code and place of an answer
unfoldable pub verdict_of : Result (Unit {0}) Refusal → Verdict
verdict_of (Ok _) = record { code = 0; place = 0 }
verdict_of (Err Facets) = record { code = 1; place = 0 }
verdict_of (Err (Number k)) = record { code = 2; place = k }
verdict_of (Err Room) = record { code = 3; place = 0 }

-- an answer, and the lent bytes as left
abbrev pub told : Result (Unit {0}) Refusal → List ℕ → Wrote
told answer left = record { verdict = verdict_of answer; left = left }

-- every number of the list is in range; number k is not
abbrev pub AllIn : List ℤ → Type 0
AllIn units = (k : ℕ) → k < length units → in_range (get_or units k (pos 0)) ≡ true

abbrev pub stray_in : List ℤ → ℕ → Bool
stray_in units k = not (in_range (get_or units k (pos 0)))

-- the answer to the list and so much room
unfoldable pub strayed : Option ℕ → Result (Unit {0}) Refusal → Result (Unit {0}) Refusal
strayed (some k) other = Err (Number k)
strayed none other = other

-- not whole facets, or too many
abbrev pub ill_counted : List ℤ → Bool
ill_counted units = not (eqb (length units % 9) 0) || ltb most_facets (facets_of units)

unfoldable pub writing : List ℤ → ℕ → Result (Unit {0}) Refusal
writing units room =
    cond (ill_counted units) (Err Facets)
    (strayed (lowest (length units) (stray_in units)) (cond (ltb room (file_length (facets_of units))) (Err Room) (Ok tt)))

-- what an answer leaves of the lent bytes
unfoldable pub left_by : Result (Unit {0}) Refusal → List ℤ → List ℕ → List ℕ
left_by (Ok _) units lent = written (file_of units) lent
left_by (Err refusal) units lent = lent

pub few_facets : (units : List ℤ) → ill_counted units ≡ false → length units / 9 ≤ most_facets
unfolding facets_of
few_facets units e = ltb-false most_facets (facets_of units) (or_no_second (not (eqb (length units % 9) 0)) (ltb most_facets (facets_of units)) e)

-- ---- it is the answer of `rules`

first_match_lem : (bad : Bool) (stray : Option ℕ) (short : Bool)
    → verdict_of (cond bad (Err Facets) (strayed stray (cond short (Err Room) (Ok tt)))) ≡ first_match 1 ((λ _. given bad) ∷ (λ _. stray) ∷ (λ _. given short) ∷ [])
unfolding verdict_of strayed first_match given found
first_match_lem true stray short = refl
first_match_lem false (some k) short = refl
first_match_lem false none true = refl
first_match_lem false none false = refl

left_by_code : (a : Result (Unit {0}) Refusal) (units : List ℤ) (lent : List ℕ) → left_by a units lent ≡ cond (eqb (verdict_of a).code 0) (written (file_of units) lent) lent
unfolding left_by verdict_of
left_by_code (Ok _) units lent = refl
left_by_code (Err Facets) units lent = refl
left_by_code (Err (Number k)) units lent = refl
left_by_code (Err Room) units lent = refl

pub told_writing : (units : List ℤ) (lent : List ℕ) {a : Result (Unit {0}) Refusal} → a ≡ writing units (length lent) → {left : List ℕ} → left ≡ left_by a units lent → told a left ≡ write_facets units lent
unfolding writing write_tests write_facets
told_writing units lent {a} is {left} e =
    let v = first_match_lem (ill_counted units) (lowest (length units) (stray_in units)) (ltb (length lent) (file_length (facets_of units))) in
    ap (told a) (e ∙ left_by_code a units lent)
    ∙ ap (λ (w : Verdict). record { verdict = w; left = cond (eqb w.code 0) (written (file_of units) lent) lent }) (ap verdict_of is ∙ v)

-- ---- what may be written: the lists that are taken

pub done_writable : (units : List ℤ) (room : ℕ) → writing units room ≡ Ok tt → Writable units room
unfolding writing write_tests verdict_of
done_writable units room e =
    let v = first_match_lem (ill_counted units) (lowest (length units) (stray_in units)) (ltb room (file_length (facets_of units))) in
    (wrote_exactly units room).0 (ap (λ (w : Verdict). w.code) (sym v) ∙ ap (λ (w : Result (Unit {0}) Refusal). (verdict_of w).code) e)

pub all_in : {units : List ℤ} {room : ℕ} → Writable units room → AllIn units
all_in {units} w k l = (range_reads (get_or units k (pos 0))).1 (w.on k l)

-- three units of the list are no NaNs
pub numbers_in : (units : List ℤ) → AllIn units → (from : ℕ) → from + 3 ≤ length units → Numbers (corner_in units from)
unfolding corner_in
numbers_in units on from l =
    grid_numbers (get_or units from (pos 0)) (get_or units (from + 1) (pos 0)) (get_or units (from + 2) (pos 0)) (on from (omega arith)) (on (from + 1) (omega arith)) (on (from + 2) (omega arith))
