-- A file that is filled facet by facet: `facets` of them are to come, and facet f has the fifty bytes `bytes f`.
use Rattle.std.specs.Prelude.{◌≡◌, refl}
use Rattle.std.proofs.Math.Path.{sym, ap}
use Rattle.std.proofs.Common.{◌∙◌}
use mathlib.Core.List.{List, ◌++◌, append_assoc, append-nil}
use Prim.Native.Nat.{ℕ, zero, suc, ◌+◌, ◌*◌, ◌≤◌, ◌<◌}
use native.Mathlib.Omega.{arith}
use Rattle.std.proofs.Math.ListN.{length, length-append}
use Rattle.std.proofs.lemmas.List.Edits.{sets}
use Rattle.rules.specs.Below.{gather}
use Rattle.rules.specs.Words.{bytes_of}
use Rattle.rules.specs.Job.{written}
use Rattle.rules.specs.Stl.{header, facet_at, file_length}
use Rattle.rules.specs.Laws.Lists.{gather_more}
use Rattle.rules.specs.Laws.Words.{bytes_length}
use Rattle.rules.specs.Laws.Written.{written_length, written_run, written_over}
use Rattle.rules.specs.Laws.Stl.{header_length}

module _ (facets : ℕ) (bytes : ℕ → List ℕ) (fifty : (f : ℕ) → length (bytes f) ≡ 50) where
  -- the file as far as its first f facets
  abbrev pub front : ℕ → List ℕ
  front f = (header ++ bytes_of 4 facets) ++ gather f bytes

  gathered : (f : ℕ) → length (gather f bytes) ≡ 50 * f
  unfolding gather
  gathered zero = omega arith
  gathered (suc f) = length-append (gather f bytes) (bytes f) ∙ omega (arith, gathered f, fifty f)

  front_length : (f : ℕ) → length (front f) ≡ facet_at f
  front_length f =
      length-append (header ++ bytes_of 4 facets) (gather f bytes)
      ∙ omega (arith, length-append header (bytes_of 4 facets), header_length, bytes_length 4 facets, gathered f)

  -- f facets are written, and nothing behind them is changed
  pub record Filled (lent : List ℕ) (f : ℕ) (file : List ℕ) : Type 0 where
    pub upto : f ≤ facets
    pub room : file_length facets ≤ length lent
    pub kept : length file ≡ length lent
    pub is : file ≡ written (front f) lent

  -- header and count stand at the front of what was lent
  pub fill_begins : (lent : List ℕ) {file : List ℕ} → file_length facets ≤ length lent → file ≡ written (header ++ bytes_of 4 facets) lent → Filled file 0 file
  unfolding gather
  fill_begins lent {file} room e =
      let long : length (header ++ bytes_of 4 facets) ≡ 84 = length-append header (bytes_of 4 facets) ∙ omega (arith, header_length, bytes_length 4 facets) in
      let same : length file ≡ length lent = ap length e ∙ written_length (header ++ bytes_of 4 facets) lent (omega arith) in
      record {
        upto = omega arith;
        room = omega arith;
        kept = refl;
        is = e ∙ sym (written_over (header ++ bytes_of 4 facets) (header ++ bytes_of 4 facets) lent (omega arith)) ∙ ap (written (header ++ bytes_of 4 facets)) (sym e)
            ∙ ap (λ (l : List ℕ). written l file) (sym (append-nil (header ++ bytes_of 4 facets)));
      }

  pub fill_turn : {lent file : List ℕ} {f : ℕ} → Filled lent f file → f < facets → {next : List ℕ} → next ≡ sets file (facet_at f) (bytes f) → Filled lent (f + 1) next
  fill_turn {lent} {file} {f} filled l {next} e =
      let longer : length (front (f + 1)) ≤ length lent = omega (arith, front_length (f + 1), filled.room) in
      let more : next ≡ written (front (f + 1)) lent =
      e ∙ ap (λ (x : List ℕ). sets x (facet_at f) (bytes f)) filled.is
      ∙ written_run (bytes f) (front f) lent (facet_at f) (sym (front_length f)) (omega (arith, fifty f, filled.room))
      ∙ ap (λ (x : List ℕ). written x lent)
      (append_assoc (header ++ bytes_of 4 facets) (gather f bytes) (bytes f) ∙ ap (λ (x : List ℕ). (header ++ bytes_of 4 facets) ++ x) (sym (gather_more f bytes))) in
      record {
        upto = omega arith;
        room = filled.room;
        kept = ap length more ∙ written_length (front (f + 1)) lent longer;
        is = more;
      }

  pub fill_ends : (lent : List ℕ) {begun file : List ℕ} {f : ℕ} → begun ≡ written (header ++ bytes_of 4 facets) lent → Filled begun f file → facets ≤ f
      → file ≡ written (header ++ (bytes_of 4 facets ++ gather facets bytes)) lent
  fill_ends lent {begun} {file} {f} e filled l =
      let all : f ≡ facets = omega (arith, filled.upto) in
      let head = header ++ bytes_of 4 facets in
      filled.is ∙ ap (written (front f)) e ∙ written_over (front f) head lent (omega (arith, length-append head (gather f bytes)))
      ∙ ap (λ (k : ℕ). written (front k) lent) all ∙ ap (λ (x : List ℕ). written x lent) (append_assoc header (bytes_of 4 facets) (gather facets bytes))
