-- The reader's answer, as `rules` has it.
use Rattle.std.specs.Prelude.{◌≡◌, Bool, not, cond, List, [], ◌∷◌, ℕ, ◌*◌, eqb, ℤ, length, Result, Ok, Err, Float}
use Rattle.std.proofs.Math.Path.{refl, sym, ap}
use Rattle.std.proofs.Common.{◌∙◌}
use Rattle.std.proofs.Math.Bool.{true, false}
use Rattle.std.proofs.Math.Option.{Option, some, none}
use Rattle.std.proofs.Math.Dec.{ltb}
use Rattle.rules.specs.Below.{found}
use Rattle.rules.specs.First.{given, Verdict, first_match}
use Rattle.rules.specs.Job.{written}
use Rattle.rules.specs.Stl.{count_in, ill_sized, headed, faulty, first_fault, not_zero, read_tests, units_in, Read, handed_back, read_file}
use Rattle.rules.specs.Laws.Truth.{not_both}
use Rattle.rules.specs.Laws.First.{match_here, match_later, match_end}
use Rattle.rules.specs.Laws.Below.{lowest_is}
use Rattle.trips.specs.Readable.{Readable}
use Rattle.trips.proofs.Readable.{read_exactly, read_whole, read_verdict}
use Rattle.stl.specs.Faults.{facet_fault, fault_told}
use Rattle.stl.specs.declared.reader.Refusal.{Refusal}
use Rattle.stl.specs.declared.reader.Refusal.TheVariants.{Length, Header, Room, NotZero, Off}

-- code and place of an answer
unfoldable pub verdict_of : Result ℕ Refusal → Verdict
verdict_of (Ok n) = record { code = 0; place = 0 }
verdict_of (Err Length) = record { code = 1; place = 0 }
verdict_of (Err Header) = record { code = 2; place = 0 }
verdict_of (Err Room) = record { code = 3; place = 0 }
verdict_of (Err (NotZero f)) = record { code = 4; place = f }
verdict_of (Err (Off o)) = record { code = 5; place = o.facet }

-- how many facets were read
unfoldable pub facets_in : Result ℕ Refusal → ℕ
facets_in (Ok n) = n
facets_in (Err Length) = 0
facets_in (Err Header) = 0
facets_in (Err Room) = 0
facets_in (Err (NotZero f)) = 0
facets_in (Err (Off o)) = 0

-- the number off the grid and its bits
unfoldable pub off_in : Result ℕ Refusal → Option (Float × ℕ)
off_in (Ok n) = none
off_in (Err Length) = none
off_in (Err Header) = none
off_in (Err Room) = none
off_in (Err (NotZero f)) = none
off_in (Err (Off o)) = some (o.number, o.bits)

-- an answer, and the lent units as left
abbrev pub told : Result ℕ Refusal → List ℤ → Read
told answer left = record { verdict = verdict_of answer; facets = facets_in answer; off = off_in answer; left = left }

-- the answer to the first facet at fault
unfoldable pub at_fault : Result (Unit {0}) Refusal → Result ℕ Refusal
at_fault (Ok _) = Ok 0
at_fault (Err refusal) = Err refusal

unfoldable pub searched : List ℕ → Option ℕ → Result ℕ Refusal
searched bytes none = Ok (count_in bytes)
searched bytes (some f) = at_fault (facet_fault bytes f)

-- the answer to the file and room for so many numbers
unfoldable pub reading : List ℕ → ℕ → Result ℕ Refusal
reading bytes room =
    cond (ill_sized bytes) (Err Length) (cond (not (headed bytes)) (Err Header) (cond (ltb room (9 * count_in bytes)) (Err Room) (searched bytes (first_fault bytes))))

-- what an answer leaves of the lent units
unfoldable pub left_by : Result ℕ Refusal → List ℕ → List ℤ → List ℤ
left_by (Ok n) bytes lent = written (units_in bytes) lent
left_by (Err refusal) bytes lent = lent

-- ---- it is the answer of `rules`

module _ (bytes : List ℕ) (lent : List ℤ) where
  abbrev answer_by : Verdict → Read
  answer_by v =
      cond (eqb v.code 0) (record { verdict = v; facets = count_in bytes; off = none; left = written (units_in bytes) lent })
      (record { verdict = v; facets = 0; off = handed_back bytes v; left = lent })

  by : {v : Verdict} → first_match 1 (read_tests bytes (length lent)) ≡ v → answer_by v ≡ read_file bytes lent
  unfolding read_file
  by e = sym (ap answer_by e)

  abbrev answered : Result ℕ Refusal → Read
  answered a = told a (left_by a bytes lent)

  module _ (sized : ill_sized bytes ≡ false) (head : headed bytes ≡ true) (roomy : ltb (length lent) (9 * count_in bytes) ≡ false) where
    -- codes 1 to 3 are not given
    at_facets : first_match 1 (read_tests bytes (length lent)) ≡ first_match 4 ((λ _. not_zero bytes (first_fault bytes)) ∷ (λ _. first_fault bytes) ∷ [])
    unfolding read_tests given found
    at_facets = match_later 1 _ _ (rw sized) ∙ match_later 2 _ _ (rw head) ∙ match_later 3 _ _ (rw roomy)

    at_fault_lem : (f : ℕ) → first_fault bytes ≡ some f → (x : Result (Unit {0}) Refusal) → x ≡ facet_fault bytes f → answered (at_fault x) ≡ read_file bytes lent
    unfolding at_fault left_by verdict_of facets_in off_in handed_back not_zero found first_fault
    at_fault_lem f e (Ok _) is = absurd (not_both (lowest_is (count_in bytes) (faulty bytes) f e).passes (fault_told bytes f is))
    at_fault_lem f e (Err (NotZero g)) is = let t = fault_told bytes f is in rw t.0 (by (at_facets ∙ match_here 4 _ _ f (rw (e, t.1))))
    at_fault_lem f e (Err (Off o)) is =
        let a = fault_told bytes f is in
        rw a.off_is (by (at_facets ∙ match_later 4 _ _ (rw (e, a.blank_is)) ∙ match_here 5 _ _ f e))
    at_fault_lem f e (Err Length) is = absurd (fault_told bytes f is)
    at_fault_lem f e (Err Header) is = absurd (fault_told bytes f is)
    at_fault_lem f e (Err Room) is = absurd (fault_told bytes f is)

    no_fault : first_fault bytes ≡ none → answered (Ok (count_in bytes)) ≡ read_file bytes lent
    unfolding left_by verdict_of facets_in off_in not_zero
    no_fault e = by (at_facets ∙ match_later 4 _ _ (rw e) ∙ match_later 5 _ _ e ∙ match_end 6)

  pub told_reading : {a : Result ℕ Refusal} → a ≡ reading bytes (length lent) → {left : List ℤ} → left ≡ left_by a bytes lent → told a left ≡ read_file bytes lent
  unfolding reading searched read_tests given found left_by verdict_of facets_in off_in handed_back
  told_reading {a} is {left} e =
      ap (told a) e ∙ ap answered is
      ∙ go (ill_sized bytes) refl (headed bytes) refl (ltb (length lent) (9 * count_in bytes)) refl (first_fault bytes) refl
    where
      go : (a : Bool) → ill_sized bytes ≡ a → (b : Bool) → headed bytes ≡ b → (c : Bool) → ltb (length lent) (9 * count_in bytes) ≡ c → (o : Option ℕ) → first_fault bytes ≡ o
          → answered (cond a (Err Length) (cond (not b) (Err Header) (cond c (Err Room) (searched bytes o)))) ≡ read_file bytes lent
      go true p b q c r o s = by (match_here 1 _ _ 0 (rw p))
      go false p false q c r o s = by (match_later 1 _ _ (rw p) ∙ match_here 2 _ _ 0 (rw q))
      go false p true q true r o s = by (match_later 1 _ _ (rw p) ∙ match_later 2 _ _ (rw q) ∙ match_here 3 _ _ 0 (rw r))
      go false p true q false r (some f) s = at_fault_lem p q r f s (facet_fault bytes f) refl
      go false p true q false r none s = no_fault p q r s

  -- ---- what is read: the files that are taken, and all their facets

  pub facets_readable : (facets : ℕ) → reading bytes (length lent) ≡ Ok facets → Readable bytes (length lent) × (facets ≡ count_in bytes)
  unfolding left_by verdict_of facets_in
  facets_readable facets e =
      let is = told_reading (sym e) refl in
      let taken = (read_exactly bytes (length lent)).0 (ap (λ (v : Verdict). v.code) (sym (read_verdict bytes lent)) ∙ ap (λ (r : Read). r.verdict.code) (sym is)) in
      (taken, ap (λ (r : Read). r.facets) (is ∙ read_whole bytes lent taken))
