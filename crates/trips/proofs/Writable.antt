-- The facet writer answers 0 to the lists that are taken, and to no other.
use Rattle.std.specs.Prelude.{◌≡◌, ◌||◌, ◌↔◌, List, ℕ, ◌%◌, eqb, ℤ, pos, length, get_or}
use Rattle.std.proofs.Math.Path.{ap}
use Rattle.std.proofs.Math.Bool.{not}
use Rattle.std.proofs.Common.{zero-lt-suc}
use Rattle.std.proofs.Math.Dec.{ltb}
use borrow.Author.Tests.{eqb-true, eq-eqb, ltb-false, le-ltb, not-false}
use Rattle.rules.specs.First.{first_match}
use Rattle.rules.specs.Points.{in_range}
use Rattle.rules.specs.Job.{written}
use Rattle.rules.specs.Stl.{most_facets, file_length, facets_of, file_of, write_tests, write_facets}
use Rattle.rules.specs.Reading.Points.{range_reads}
use Rattle.rules.specs.Laws.Truth.{or_no_first, or_no_second, or_neither}
use Rattle.rules.specs.Laws.Below.{lowest_none, none_lowest}
use Rattle.trips.specs.Silent.{Silent, silent_verdict, silent_exactly, given_silent}
use Rattle.trips.specs.Writable.{Writable}

module _ (units : List ℤ) (room : ℕ) where
  silent_writable : Silent (write_tests units room) ↔ Writable units room
  unfolding write_tests
  silent_writable = (
    λ (sized, (near, (big, _))).
        let fit = (given_silent (not (eqb (length units % 9) 0) || ltb most_facets (facets_of units))).0 sized in
        record {
          whole = eqb-true (length units % 9) 0 (not-false (eqb (length units % 9) 0) (or_no_first _ _ fit));
          few = ltb-false most_facets (facets_of units) (or_no_second (not (eqb (length units % 9) 0)) _ fit);
          on = λ k l. (range_reads (get_or units k (pos 0))).0 (not-false (in_range (get_or units k (pos 0))) (lowest_none (length units) _ near k l));
          roomy = ltb-false room (file_length (facets_of units)) ((given_silent _).0 big);
        },
    λ w. (
      (given_silent _).1 (or_neither (ap not (eq-eqb (length units % 9) 0 w.whole)) (le-ltb most_facets (facets_of units) w.few)),
      (none_lowest (length units) _ (λ k l. ap not ((range_reads (get_or units k (pos 0))).1 (w.on k l))), ((given_silent _).1 (le-ltb room (file_length (facets_of units)) w.roomy), tt)),
    ),
  )

  -- the facet writer answers 0 to these lists, and to no other
  pub wrote_exactly : ((first_match 1 (write_tests units room)).code ≡ 0) ↔ Writable units room
  wrote_exactly =
      let (silent, coded) = silent_exactly 1 (zero-lt-suc 0) (write_tests units room) in
      (λ e. silent_writable.0 (silent e), λ w. coded (silent_writable.1 w))

-- its answer, and the lent bytes as left
pub wrote_whole : (units : List ℤ) (lent : List ℕ) → Writable units (length lent)
    → write_facets units lent ≡ record { verdict = record { code = 0; place = 0 }; left = written (file_of units) lent }
unfolding write_facets
wrote_whole units lent w = rw (silent_verdict 1 (write_tests units (length lent)) ((silent_writable units (length lent)).1 w))
