-- How large what a call gives can be.
use Rattle.std.specs.Prelude.{◌≡◌, refl, Bool, true, false, not, ◌||◌, cond, List, [], ◌∷◌, ℕ, ◌*◌, ◌%◌, ◌≤◌, ◌<◌, eqb, ltb, ℤ, pos, length, get_or}
use Rattle.std.proofs.Math.Option.{Option, some, none}
use Rattle.std.proofs.Common.{zero-lt-suc, arith, ltb-false, eqb-true}
use Rattle.std.proofs.lemmas.Bool.{not-false}
use Rattle.rules.specs.Below.{found, lowest}
use Rattle.rules.specs.First.{given, first_match}
use Rattle.rules.specs.Points.{in_range}
use Rattle.rules.specs.Job.{track, header_of, has_points, most_rows, most_proposals, job_of, Lent, written, Result, run}
use Rattle.rules.specs.Stl.{most_facets, file_length, facets_of, write_tests, write_facets, skin_file, file_tests, unwritten, Exported, exported, write_skin}
use Rattle.rules.specs.Laws.Truth.{or_no_first, or_no_second}
use Rattle.rules.specs.Laws.Below.{lowest_is}
use Rattle.rules.specs.Laws.First.{match_below}
use Rattle.rules.specs.Reading.Codes.{run_code_below}
use Rattle.rules.proofs.Reading.Small.{place_small, taken_small, triangles_small}

-- ---- a run, and a run whose skin is written

pub record SmallResult (r : Result) : Type 0 where
  pub code : r.code < 22
  pub place : r.place ≤ most_rows
  pub taken : r.taken ≤ most_proposals
  pub triangles : r.triangles ≤ 2 * most_rows

pub run_small : (job : List ℕ) (lent : Lent) → SmallResult (run track job lent)
run_small job lent = record {
  code = omega (arith, run_code_below track job lent);
  place = place_small track job lent refl;
  taken = taken_small track job lent refl;
  triangles = triangles_small track job lent refl;
}

-- codes 20 and 21 have place 0
file_place : (bytes : List ℕ) (triangles room : ℕ) → (first_match 20 (file_tests track bytes triangles room)).place ≡ 0
unfolding file_tests given found first_match
file_place bytes triangles room = go (not (has_points track (header_of bytes))) (ltb room (file_length triangles))
  where
    go : (bare short : Bool) → (first_match 20 ((λ _. given bare) ∷ (λ _. given short) ∷ [])).place ≡ 0
    go true short = refl
    go false true = refl
    go false false = refl

unwritten_small : (bytes : List ℕ) (triangles room : ℕ) (left : Lent) → SmallResult (unwritten (first_match 20 (file_tests track bytes triangles room)) left)
unfolding unwritten file_tests
unwritten_small bytes triangles room left = record {
  code = match_below 20 (zero-lt-suc 19) (file_tests track bytes triangles room);
  place = omega (arith, file_place bytes triangles room);
  taken = omega arith;
  triangles = omega arith;
}

-- whichever is answered
either : (b : Bool) (x y : Exported) → SmallResult x.result → SmallResult y.result → SmallResult (cond b x y).result
either true x y s t = s
either false x y s t = t

exported_small : (job : List ℕ) (r : Result) (file : List ℕ) → SmallResult r → SmallResult (exported track job r file).result
unfolding exported
exported_small job r file small =
    let v = first_match 20 (file_tests track job r.triangles (length file)) in
    either (eqb v.code 0) (record { result = r; file = written (skin_file (job_of track job)) file }) (record { result = unwritten v r.left; file = file }) small
    (unwritten_small job r.triangles (length file) r.left)

pub skin_small : (job : List ℕ) (lent : Lent) (file : List ℕ) → SmallResult (write_skin track job lent file).result
unfolding write_skin
skin_small job lent file =
    let r = run track job lent in
    either (eqb r.code 0) (exported track job r file) (record { result = r; file = file }) (exported_small job r file (run_small job lent)) (run_small job lent)

-- ---- the facet writer: a place is the index of a number, of at most 9 times 4,096

pub write_place_small : (units : List ℤ) (lent : List ℕ) → (write_facets units lent).verdict.place ≤ 9 * most_facets
unfolding write_facets write_tests given found first_match facets_of
write_place_small units lent =
    go (not (eqb (length units % 9) 0) || ltb most_facets (facets_of units)) refl (lowest (length units) stray) refl (ltb (length lent) (file_length (facets_of units)))
  where
    stray : ℕ → Bool
    stray k = not (in_range (get_or units k (pos 0)))

    go : (bad : Bool) → (not (eqb (length units % 9) 0) || ltb most_facets (facets_of units)) ≡ bad → (first : Option ℕ) → lowest (length units) stray ≡ first → (short : Bool)
        → (first_match 1 ((λ _. given bad) ∷ (λ _. first) ∷ (λ _. given short) ∷ [])).place ≤ 9 * most_facets
    go true p first q short = omega arith
    go false p (some k) q short =
        let few = ltb-false most_facets (facets_of units) (or_no_second (not (eqb (length units % 9) 0)) _ p) in
        let whole = eqb-true (length units % 9) 0 (not-false (eqb (length units % 9) 0) (or_no_first _ _ p)) in
        omega (arith, few, whole, (lowest_is (length units) stray k q).below)
    go false p none q true = omega arith
    go false p none q false = omega arith
