-- What is told of each call, in words of 32 bits.
use Rattle.std.specs.Prelude.{◌≡◌, List, [], ◌∷◌, ◌++◌, ℕ, ◌+◌, ◌<◌, Float, ℤ, length, drop, Result as Answer, Ok, Err}
use Rattle.std.proofs.Math.Path.{refl, ap, sym}
use Rattle.std.proofs.Common.{◌∙◌, arith, append-nil}
use Rattle.std.proofs.lemmas.List.{drop_all}
use Rattle.std.proofs.lemmas.List.Edits.{sets-eq}
use Rattle.std.proofs.Math.Option.{Option, some, none}
use Rattle.std.proofs.Math.Seq.{sets}
use Rattle.std.specs.Result.{MatchResult, IsErrAnd}
use Rattle.rules.specs.First.{Verdict}
use Rattle.rules.specs.Job.{track, Lent, Result, run}
use Rattle.rules.specs.Stl.{Wrote, write_facets, Read, read_file, Exported, write_skin}
use Rattle.stl.specs.Writing as writing
use Rattle.stl.specs.Reading as reading
use Rattle.stl.specs.declared.writer.Refusal as writer
use Rattle.stl.specs.declared.reader.Refusal as reader
use Rattle.track.specs.declared.refusal.Grown.{Grown}
use Rattle.track.specs.Outcomes.{Outcome, result_of, refusal}
use Rattle.track_stl.specs.Ran as ran
use Rattle.track_c.specs.Small.{SmallResult, run_small, skin_small, write_place_small}

-- of a run: code, place, taken, triangles
unfoldable pub told : Result → List ℕ
told r = r.code ∷ r.place ∷ r.taken ∷ r.triangles ∷ []

-- of the facet writer: code, place
unfoldable pub told_wrote : Wrote → List ℕ
told_wrote w = w.verdict.code ∷ w.verdict.place ∷ []

-- of the reader: code, place, facets, the bits of the number off the grid or 0
unfoldable pub bits_back : Option (Float × ℕ) → ℕ
bits_back (some (_, bits)) = bits
bits_back none = 0

unfoldable pub told_read : Read → List ℕ
told_read r = r.verdict.code ∷ r.verdict.place ∷ r.facets ∷ bits_back r.off ∷ []

-- ---- the same of what the code returns

-- the outcome of a grown skin, or of a refusal's code and place
abbrev pub outcome_in : Answer Grown (ℕ × ℕ) → Outcome
outcome_in (Ok grown) = record { code = 0; place = 0; taken = grown.taken; triangles = grown.triangles }
outcome_in (Err told) = record { code = told.0; place = told.1; taken = 0; triangles = 0 }

abbrev pub run_words : Outcome → List ℕ
run_words o = o.code ∷ o.place ∷ o.taken ∷ o.triangles ∷ []

abbrev pub write_words : Answer (Unit {0}) writer.Refusal → List ℕ
write_words r = (writing.verdict_of r).code ∷ (writing.verdict_of r).place ∷ []

abbrev pub read_words : Answer ℕ reader.Refusal → List ℕ
read_words r = (reading.verdict_of r).code ∷ (reading.verdict_of r).place ∷ reading.facets_in r ∷ bits_back (reading.off_in r) ∷ []

-- words that take the place of as many others
pub words_put : (before words : List ℕ) → length before ≡ length words → words ≡ sets before 0 words
words_put before words e =
    let none : drop (0 + length words) before ≡ [] = drop_all (0 + length words) before (omega (arith, e)) in
    sym (sets-eq words before 0 (omega (arith, e)) ∙ ap (λ (rest : List ℕ). words ++ rest) none ∙ append-nil words)

-- an answer that is a refusal, by what the refusal is
pub err_told : {A E : Type 0} {r : Answer A E} {refusal which : E} → r ≡ Err refusal → refusal ≡ which → r ≡ Err which
err_told {A} {E} is e = is ∙ ap (λ (x : E). Err x) e

-- ---- it fits

pub record RunFits (o : Outcome) : Type 0 where
  pub code : o.code < 4294967296
  pub place : o.place < 4294967296
  pub taken : o.taken < 4294967296
  pub triangles : o.triangles < 4294967296

abbrev pub WriteFits : Answer (Unit {0}) writer.Refusal → Type 0
WriteFits r = (writing.verdict_of r).place < 4294967296

small_fits : {o : Outcome} {left : Lent} {r : Result} → result_of o left ≡ r → SmallResult r → RunFits o
small_fits e s = record {
  code = omega (arith, ap (λ (r : Result). r.code) e, s.code);
  place = omega (arith, ap (λ (r : Result). r.place) e, s.place);
  taken = omega (arith, ap (λ (r : Result). r.taken) e, s.taken);
  triangles = omega (arith, ap (λ (r : Result). r.triangles) e, s.triangles);
}

-- ---- what is told of a refusal is its code and place

pub outcome_told : {E : Type 0} {Tells : E → ℕ × ℕ → Type 0} (verdict_of : E → Verdict) (outcome_of : Answer Grown E → Outcome)
    → ((g : Grown) → outcome_of (Ok g) ≡ outcome_in (Ok g)) → ((e : E) → outcome_of (Err e) ≡ refusal (verdict_of e))
    → ((e : E) (p : ℕ × ℕ) → Tells e p → (p.0 ≡ (verdict_of e).code) × (p.1 ≡ (verdict_of e).place))
    → (a : Answer Grown E) (r : Answer Grown (ℕ × ℕ)) → MatchResult a (λ g. r ≡ Ok g) (λ e. IsErrAnd r (Tells e)) → outcome_in r ≡ outcome_of a
outcome_told verdict_of outcome_of grown refused tells (Ok g) r is = ap outcome_in is ∙ sym (grown g)
outcome_told verdict_of outcome_of grown refused tells (Err e) (Ok g) is = absurd is
outcome_told verdict_of outcome_of grown refused tells (Err e) (Err p) is =
    let (code_is, place_is) = tells e p is in
    rw (refused e, ← code_is, ← place_is) refl

-- ---- each call

module _ (job : List ℕ) (lent : Lent) {o : Outcome} {left : Lent} (is : result_of o left ≡ run track job lent) where
  pub run_fits : RunFits o
  run_fits = small_fits is (run_small job lent)

  pub run_told : (before : List ℕ) {after : List ℕ} → after ≡ sets before 0 (run_words o) → (after ≡ sets before 0 (told (run track job lent))) × (left ≡ (run track job lent).left)
  unfolding told
  run_told before e = (e ∙ ap (λ (r : Result). sets before 0 (told r)) is, ap (λ (r : Result). r.left) is)

module _ (job : List ℕ) (lent : Lent) (lent_file : List ℕ) {o : Outcome} {left : Lent} {file : List ℕ} (is : ran.told o left file ≡ write_skin track job lent lent_file) where
  pub skin_fits : RunFits o
  skin_fits = small_fits (ap (λ (x : Exported). x.result) is) (skin_small job lent lent_file)

  pub skin_told : (before : List ℕ) {after : List ℕ} → after ≡ sets before 0 (run_words o)
      → (after ≡ sets before 0 (told (write_skin track job lent lent_file).result)) × (left ≡ (write_skin track job lent lent_file).result.left) × (file ≡ (write_skin track job lent lent_file).file)
  unfolding told
  skin_told before e = (
    e ∙ ap (λ (x : Exported). sets before 0 (told x.result)) is,
    ap (λ (x : Exported). x.result.left) is,
    ap (λ (x : Exported). x.file) is,
  )

module _ (units : List ℤ) (lent : List ℕ) (r : Answer (Unit {0}) writer.Refusal) {left : List ℕ} (is : writing.told r left ≡ write_facets units lent) where
  pub write_fits : WriteFits r
  write_fits = omega (arith, ap (λ (w : Wrote). w.verdict.place) is, write_place_small units lent)

  pub write_told : (before : List ℕ) {after : List ℕ} → after ≡ sets before 0 (write_words r) → (after ≡ sets before 0 (told_wrote (write_facets units lent))) × (left ≡ (write_facets units lent).left)
  unfolding told_wrote
  write_told before e = (e ∙ ap (λ (w : Wrote). sets before 0 (told_wrote w)) is, ap (λ (w : Wrote). w.left) is)

module _ (bytes : List ℕ) (lent : List ℤ) (r : Answer ℕ reader.Refusal) {left : List ℤ} (is : reading.told r left ≡ read_file bytes lent) where
  pub read_told : (before : List ℕ) {after : List ℕ} → after ≡ sets before 0 (read_words r) → (after ≡ sets before 0 (told_read (read_file bytes lent))) × (left ≡ (read_file bytes lent).left)
  unfolding told_read
  read_told before e = (e ∙ ap (λ (x : Read). sets before 0 (told_read x)) is, ap (λ (x : Read). x.left) is)
