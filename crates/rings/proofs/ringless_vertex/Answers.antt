use Rattle.rings.specs.Tallies.{tallies_begin}
use Rattle.rings.proofs.ringless_vertex.Goals as goal

pub tally_all-requires : goal.tally_all-requires
tally_all-requires c = tallies_begin _ _
