-- The rules of a closed table, first match decides.
use Rattle.std.specs.Prelude.{◌≡◌, refl, not, Option, Some, None, Result, Ok, Err, List, [], ◌∷◌, ℕ, ◌+◌, ◌*◌, ◌≤◌, length, get_or, replicate}
use Rattle.std.proofs.Math.Path.{sym, ap}
use Rattle.std.proofs.Common.{◌∙◌, arith}
use Rattle.std.proofs.Math.Option as rules
use Rattle.rules.specs.Below.{lowest}
use Rattle.rules.specs.Table.{Table, neighbour_list, triangles_shared, edges_joined, vertices_joined}
use Rattle.rules.specs.First.{Test, Verdict, first_match}
use Rattle.rules.specs.Job.{bad_row, not_after, table_tests, written}
use Rattle.rules.specs.Laws.Written.{written_length, written_at}
use Rattle.rules.specs.Reading.Closed.{list_length, list_at}
use Rattle.rules.proofs.Reading.Codes.{none_paired}
use Rattle.rules.specs.Laws.First.{match_here, match_later, match_end}
use Rattle.rules.specs.Laws.Below.{lowest_same}
use Rattle.values.specs.Places.{place_of}
use Rattle.table.specs.declared.Broken.{Broken}
use Rattle.table.specs.declared.Broken.TheVariants.{Row, Order, Triangle, Edge, Vertex}
use Rattle.table.specs.Rows.{rows_in, table_in, OrderedRows}
use Rattle.table.specs.Triangles.{unshared, Written}
use Rattle.table.specs.Ground.{Ground}
use Rattle.table.specs.Faces.{edges_at, edges_each, vertices_at, vertices_each}
use Rattle.table.specs.Holders.{unjoined, edges_joined_lem, vertices_joined_lem}

-- document 01's code and place
abbrev pub verdict_of : Result (Unit {0}) Broken → Verdict
verdict_of (Ok _) = record { code = 0; place = 0 }
verdict_of (Err (Row r)) = record { code = 5; place = r }
verdict_of (Err (Order r)) = record { code = 6; place = r }
verdict_of (Err (Triangle r)) = record { code = 7; place = r }
verdict_of (Err (Edge r)) = record { code = 8; place = r }
verdict_of (Err (Vertex r)) = record { code = 9; place = r }

-- what is left in the work words: all zero where a rule is broken
unfoldable pub left_of : Result (Unit {0}) Broken → List ℕ → List ℕ
left_of (Ok _) work = work
left_of (Err _) work = replicate (length work) 0

-- the tests of codes 8 and 9, and of 7 to 9
unfoldable pub joined_tests : Table → List Test
joined_tests t = (λ _. lowest t.rows (λ r. not (edges_joined t r))) ∷ (λ _. lowest t.rows (λ r. not (vertices_joined t r))) ∷ []

unfoldable pub shared_tests : Table → List Test
shared_tests t = (λ _. lowest t.rows (λ r. not (triangles_shared t r))) ∷ joined_tests t

-- ---- codes 8 and 9

module _ (bytes : List ℕ) where
  module _ (edge : Option ℕ) (looked : place_of edge ≡ lowest (rows_in bytes) (unjoined (table_in bytes) edges_at edges_each)) where
    edge_test : {o : rules.Option ℕ} → place_of edge ≡ o → lowest (rows_in bytes) (λ r. not (edges_joined (table_in bytes) r)) ≡ o
    edge_test e =
        lowest_same (rows_in bytes) (λ r. not (edges_joined (table_in bytes) r)) (unjoined (table_in bytes) edges_at edges_each) (λ r _. ap not (edges_joined_lem (table_in bytes) r)) ∙ sym looked ∙ e

    pub edge_broken : {r : ℕ} → edge ≡ Some r → verdict_of (Err (Edge r)) ≡ first_match 8 (joined_tests (table_in bytes))
    unfolding joined_tests
    edge_broken {r} e = sym (match_here 8 _ _ r (edge_test (ap place_of e)))

    module _ (whole : edge ≡ None) (vertex : Option ℕ) (looked' : place_of vertex ≡ lowest (rows_in bytes) (unjoined (table_in bytes) vertices_at vertices_each)) where
      vertex_test : {o : rules.Option ℕ} → place_of vertex ≡ o → lowest (rows_in bytes) (λ r. not (vertices_joined (table_in bytes) r)) ≡ o
      vertex_test e =
          lowest_same (rows_in bytes) (λ r. not (vertices_joined (table_in bytes) r)) (unjoined (table_in bytes) vertices_at vertices_each) (λ r _. ap not (vertices_joined_lem (table_in bytes) r refl))
          ∙ sym looked' ∙ e

      pub vertex_broken : {r : ℕ} → vertex ≡ Some r → verdict_of (Err (Vertex r)) ≡ first_match 8 (joined_tests (table_in bytes))
      unfolding joined_tests
      vertex_broken {r} e = sym (match_later 8 _ _ (edge_test (ap place_of whole)) ∙ match_here 9 _ _ r (vertex_test (ap place_of e)))

      pub all_joined : vertex ≡ None → verdict_of (Ok tt) ≡ first_match 8 (joined_tests (table_in bytes))
      unfolding joined_tests
      all_joined e = sym (match_later 8 _ _ (edge_test (ap place_of whole)) ∙ match_later 9 _ _ (vertex_test (ap place_of e)) ∙ match_end 10)

-- ---- codes 7 to 9

module _ (bytes : List ℕ) (triangle : Option ℕ) (looked : place_of triangle ≡ lowest (rows_in bytes) (unshared (table_in bytes))) where
  pub triangle_broken : {r : ℕ} → triangle ≡ Some r → verdict_of (Err (Triangle r)) ≡ first_match 7 (shared_tests (table_in bytes))
  unfolding shared_tests
  triangle_broken {r} e = sym (match_here 7 _ _ r (sym looked ∙ ap place_of e))

  module _ (whole : triangle ≡ None) where
    pub triangle_fine : first_match 7 (shared_tests (table_in bytes)) ≡ first_match 8 (joined_tests (table_in bytes))
    unfolding shared_tests
    triangle_fine = match_later 7 _ _ (sym looked ∙ ap place_of whole)

    -- the neighbour list stands at the front
    pub the_ground : {ids : ℕ} → OrderedRows bytes ids → {work work₀ : List ℕ} → 4 * rows_in bytes ≤ length work₀ → Written (table_in bytes) triangle work₀ work → Ground bytes work ids
    the_ground {ids} o {work} {work₀} room w = record {
      few = o.few;
      paired = none_paired (table_in bytes) ids o.rows o.order (sym looked ∙ ap place_of whole);
      room = rw w.kept room;
      at = λ r c l m.
          ap (λ (xs : List ℕ). get_or xs (4 * r + c) 0) (w.list whole)
          ∙ written_at (neighbour_list (table_in bytes)) work₀ (4 * r + c) (rw (list_length (table_in bytes)) (omega arith))
          ∙ list_at (table_in bytes) r c l m;
    }

-- zeros in place of what was there, whatever was written of the list
pub zeros_left : (bytes work : List ℕ) → 4 * rows_in bytes ≤ length work → replicate {A = ℕ} (length work) 0 ≡ replicate (length (written (neighbour_list (table_in bytes)) work)) 0
zeros_left bytes work room = ap (λ (n : ℕ). replicate {A = ℕ} n 0) (sym (written_length (neighbour_list (table_in bytes)) work (rw (list_length (table_in bytes)) room)))

-- ---- codes 5 and 6

module _ (bytes : List ℕ) (id_count : ℕ) (row : Option ℕ) (looked : place_of row ≡ lowest (rows_in bytes) (bad_row (table_in bytes) id_count)) where
  pub row_broken : {r : ℕ} → row ≡ Some r → verdict_of (Err (Row r)) ≡ first_match 5 (table_tests (table_in bytes) id_count)
  unfolding table_tests
  row_broken {r} e = sym (match_here 5 _ _ r (sym looked ∙ ap place_of e))

  module _ (whole : row ≡ None) where
    module _ (order : Option ℕ) (looked' : place_of order ≡ lowest (rows_in bytes) (not_after (table_in bytes))) where
      pub order_broken : {r : ℕ} → order ≡ Some r → verdict_of (Err (Order r)) ≡ first_match 5 (table_tests (table_in bytes) id_count)
      unfolding table_tests
      order_broken {r} e = sym (match_later 5 _ _ (sym looked ∙ ap place_of whole) ∙ match_here 6 _ _ r (sym looked' ∙ ap place_of e))

      pub order_fine : order ≡ None → first_match 5 (table_tests (table_in bytes) id_count) ≡ first_match 7 (shared_tests (table_in bytes))
      unfolding table_tests shared_tests joined_tests
      order_fine e = match_later 5 _ _ (sym looked ∙ ap place_of whole) ∙ match_later 6 _ _ (sym looked' ∙ ap place_of e)
