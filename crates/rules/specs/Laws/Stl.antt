-- Laws of STL files: lengths, and the header.
use Rattle.std.specs.Prelude.{◌≡◌, refl, true, ◌↔◌, List, ◌++◌, ℕ, zero, suc, ◌*◌, ◌≤◌, ◌<◌, eqb, ℤ, length, get_or, take}
use Rattle.std.proofs.Common.{sym, ap, ◌∙◌, arith, length-append, get_or-take, ext_get_or, length-take-le, eqb-true, eq-eqb}
use Rattle.rules.specs.Below.{gather}
use Rattle.rules.specs.Words.{bytes_of}
use Rattle.rules.specs.Stl.{header, headed, facet_bytes, file_length, facets_of, file_of}
use Rattle.rules.specs.Laws.Below.{all_each, each_all}
use Rattle.rules.specs.Laws.Words.{bytes_length}

pub header_length : length header ≡ 80
unfolding header
header_length = refl

pub facet_length : (units : List ℤ) (from : ℕ) → length (facet_bytes units from) ≡ 50
unfolding facet_bytes gather
facet_length units from = refl

pub facets_length : (units : List ℤ) (n : ℕ) → length (gather n (λ f. facet_bytes units (9 * f))) ≡ 50 * n
unfolding gather
facets_length units zero = refl
facets_length units (suc n) =
    length-append (gather n (λ f. facet_bytes units (9 * f))) (facet_bytes units (9 * n)) ∙ omega (arith, facets_length units n, facet_length units (9 * n))

pub file_length_lem : (units : List ℤ) → length (file_of units) ≡ file_length (facets_of units)
unfolding file_of
file_length_lem units =
    let n = facets_of units in
    let facets = gather n (λ f. facet_bytes units (9 * f)) in
    length-append header (bytes_of 4 n ++ facets)
    ∙ omega (arith, header_length, length-append (bytes_of 4 n) facets, bytes_length 4 n, facets_length units n)

-- the front is the header
pub headed_reads : (bytes : List ℕ) → 80 ≤ length bytes → (headed bytes ≡ true) ↔ (take 80 bytes ≡ header)
unfolding headed
headed_reads bytes l = (
  λ t. ext_get_or 0 (take 80 bytes) header (length-take-le 80 bytes l ∙ sym header_length) (λ k m.
      let n : k < 80 = omega (arith, length-take-le 80 bytes l) in
      get_or-take 80 bytes k 0 n ∙ eqb-true (get_or bytes k 0) (get_or header k 0) (all_each 80 (λ j. eqb (get_or bytes j 0) (get_or header j 0)) t k n)),
  λ e. each_all 80 (λ j. eqb (get_or bytes j 0) (get_or header j 0)) (λ k n.
      eq-eqb (get_or bytes k 0) (get_or header k 0) (sym (get_or-take 80 bytes k 0 n) ∙ ap (λ (xs : List ℕ). get_or xs k 0) e)),
)
