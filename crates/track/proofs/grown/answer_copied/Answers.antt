use Rattle.growth.specs.Answers.{proposals_in}
use Rattle.table.specs.Rows.{table_in}
use Rattle.track.specs.Stages.{front_area, answered}
use Rattle.track.proofs.grown.answer_copied.Goals as goal

pub answer_all-requires : goal.answer_all-requires
answer_all-requires c = (front_area c.requires.0 _ c.copy.ensures, c.requires.1)

pub returns : goal.returns
returns c = let answers = c.answer_all.ensures in answered (table_in _) _ _ (proposals_in _) c.copy.ensures _ answers.0 answers.1 answers.2 _ answers.3
