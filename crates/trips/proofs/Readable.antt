-- The reader answers 0 to the files that are taken, and to no other.
use Rattle.std.specs.Prelude.{◌≡◌, refl, Bool, true, false, cond, ◌↔◌, List, ℕ, ◌+◌, ◌*◌, eqb, ℤ, length}
use Rattle.std.proofs.Common.{ap, zero-lt-suc, arith}
use Rattle.std.proofs.Math.Bool.{not}
use Rattle.std.proofs.Math.Option.{none}
use borrow.Author.Tests.{eqb-true, eq-eqb, ltb-false, le-ltb, not-false}
use Rattle.rules.specs.Words.{word}
use Rattle.rules.specs.First.{Verdict, first_match}
use Rattle.rules.specs.Job.{written}
use Rattle.rules.specs.Stl as Stl
use Rattle.rules.specs.Stl.{most_facets, file_length, header, facet_at, count_in, ill_sized, blank, bits_at, units_of, units_in, faulty, first_fault, not_zero, read_tests, read_file, Read}
use Rattle.rules.specs.Laws.Truth.{and_first, and_second, and_both, or_no_first, or_no_second, or_neither}
use Rattle.rules.specs.Laws.Below.{lowest_none, none_lowest, any_none, none_any}
use Rattle.rules.specs.Laws.Stl.{headed_reads}
use Rattle.grid.specs.Named.{named_on, not_off}
use Rattle.trips.specs.Silent.{Silent, silent_verdict, silent_exactly, given_silent}
use Rattle.trips.specs.Readable.{Sound, Readable, sized_exactly}

sound_exactly : (bytes : List ℕ) (f : ℕ) → (faulty bytes f ≡ false) ↔ Sound bytes f
unfolding faulty blank
sound_exactly bytes f = (
  λ e.
      let zeros = not-false (blank bytes f) (or_no_first _ _ e) in
      record {
        normal = eqb-true (word 12 bytes (facet_at f)) 0 (and_first _ _ zeros);
        attribute = eqb-true (word 2 bytes (facet_at f + 48)) 0 (and_second (eqb (word 12 bytes (facet_at f)) 0) _ zeros);
        numbers = λ k l. not_off (bits_at bytes f k) (any_none 9 _ (or_no_second (not (blank bytes f)) _ e) k l);
      },
  λ s. or_neither
      (ap not (and_both (eq-eqb (word 12 bytes (facet_at f)) 0 s.normal) (eq-eqb (word 2 bytes (facet_at f + 48)) 0 s.attribute)))
      (none_any 9 _ (λ k l. (named_on (bits_at bytes f k) (units_of (bits_at bytes f k)) (s.numbers k l)).0)),
)

module _ (bytes : List ℕ) (room : ℕ) where
  silent_readable : Silent (read_tests bytes room) ↔ Readable bytes room
  unfolding read_tests first_fault not_zero
  silent_readable = (
    λ (fit, (top, (big, (_, (clear, _))))).
        let (long, few) = (sized_exactly bytes).0 ((given_silent (ill_sized bytes)).0 fit) in
        record {
          long = long;
          few = few;
          headed = (headed_reads bytes (omega arith)).0 (not-false (Stl.headed bytes) ((given_silent _).0 top));
          roomy = ltb-false room (9 * count_in bytes) ((given_silent _).0 big);
          sound = λ f l. (sound_exactly bytes f).0 (lowest_none (count_in bytes) (faulty bytes) clear f l);
        },
    λ r.
        let top = (given_silent (not (Stl.headed bytes))).1 (ap not ((headed_reads bytes (omega (arith, r.long))).1 r.headed)) in
        let clear : first_fault bytes ≡ none = none_lowest (count_in bytes) (faulty bytes) (λ f l. (sound_exactly bytes f).1 (r.sound f l)) in (
          (given_silent _).1 ((sized_exactly bytes).1 (r.long, r.few)),
          (top, ((given_silent _).1 (le-ltb room (9 * count_in bytes) r.roomy), (ap (not_zero bytes) clear, (clear, tt)))),
        ),
  )

  -- the reader answers 0 to these files, and to no other
  pub read_exactly : ((first_match 1 (read_tests bytes room)).code ≡ 0) ↔ Readable bytes room
  read_exactly =
      let (silent, coded) = silent_exactly 1 (zero-lt-suc 0) (read_tests bytes room) in
      (λ e. silent_readable.0 (silent e), λ r. coded (silent_readable.1 r))

-- its answer, and the lent units as left
pub read_whole : (bytes : List ℕ) (lent : List ℤ) → Readable bytes (length lent)
    → read_file bytes lent ≡ record { verdict = record { code = 0; place = 0 }; facets = count_in bytes; off = none; left = written (units_in bytes) lent }
unfolding read_file
read_whole bytes lent r = rw (silent_verdict 1 (read_tests bytes (length lent)) ((silent_readable bytes (length lent)).1 r))

-- the answer's code is that of the tests
pub read_verdict : (bytes : List ℕ) (lent : List ℤ) → (read_file bytes lent).verdict ≡ first_match 1 (read_tests bytes (length lent))
unfolding read_file
read_verdict bytes lent = go (eqb v.code 0) _ _ refl refl
  where
    v : Verdict
    v = first_match 1 (read_tests bytes (length lent))

    go : (b : Bool) (r s : Read) → r.verdict ≡ v → s.verdict ≡ v → (cond b r s).verdict ≡ v
    go true r s e f = e
    go false r s e f = f
