-- The search for the first facet at fault: f facets are looked through, and none of them is.
use Rattle.std.specs.Prelude.{◌≡◌, List, ℕ, ◌+◌, ◌≤◌, ◌<◌, Ok, Err}
use Rattle.std.proofs.Math.Path.{sym, ap}
use Rattle.std.proofs.Common.{◌∙◌}
use Rattle.std.proofs.Math.Option.{none}
use Rattle.rules.specs.Below.{lowest}
use Rattle.rules.specs.Stl.{count_in, faulty, first_fault}
use Rattle.rules.specs.Laws.Below.{searched_more, search_stops, search_ends}
use Rattle.stl.specs.Faults.{facet_fault, fault_told, refused_faulty}
use Rattle.stl.specs.Reading.{at_fault, searched}
use Rattle.stl.specs.declared.reader.Refusal.{Refusal}

module _ (bytes : List ℕ) (f : ℕ) (sound : lowest f (faulty bytes) ≡ none) where
  pub sound_goes : Ok tt ≡ facet_fault bytes f → lowest (f + 1) (faulty bytes) ≡ none
  sound_goes is = searched_more f (faulty bytes) sound (fault_told bytes f is)

  pub fault_stops : {refusal : Refusal} → Err refusal ≡ facet_fault bytes f → f < count_in bytes → Err refusal ≡ searched bytes (first_fault bytes)
  unfolding searched at_fault first_fault
  fault_stops is l = ap at_fault is ∙ sym (ap (searched bytes) (search_stops (count_in bytes) f (faulty bytes) sound l (refused_faulty bytes f is)))

  pub none_found : count_in bytes ≤ f → Ok (count_in bytes) ≡ searched bytes (first_fault bytes)
  unfolding searched first_fault
  none_found l = sym (ap (searched bytes) (search_ends (count_in bytes) f (faulty bytes) sound l))
