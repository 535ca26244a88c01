use Rattle.track.specs.Stages.{grown_ground, final_room, grown}
use Rattle.track.proofs.grown.grow.Goals as goal

pub list_front-triangles-requires : goal.list_front-triangles-requires
list_front-triangles-requires c = let answers = c.answer_copied-taken.ensures in (grown_ground c.requires.0 answers.3, final_room c.requires.0 answers.2, c.requires.0.triangle_room, c.requires.1)

pub returns : goal.returns
returns c = grown c.requires.0 c.answer_copied-taken.ensures c.list_front-triangles.ensures
