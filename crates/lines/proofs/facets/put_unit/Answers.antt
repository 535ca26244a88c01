use Rattle.std.proofs.Common.{◌∙◌, rules, arith}
use Rattle.lines.specs.Put.{put_kept}
use Rattle.lines.specs.Units.{stored_is, unit_put}
use Rattle.lines.proofs.facets.put_unit.Goals as goal

pub put_byte-requires : goal.put_byte-requires
put_byte-requires c = omega (arith, c.requires.1, c.put_whole.ensures.1.0, c.put_whole.ensures.1.1)

pub returns : goal.returns
returns c = (
  record {
    same = c.put_byte.ensures.same ∙ c.put_whole.ensures.0.same;
    put = unit_put _ _ (stored_is (search rules)) c.parting_behind.ensures c.put_whole.ensures.0.put c.put_byte.ensures.put;
  },
  (omega (arith, c.put_whole.ensures.1.0, c.put_byte.ensures.put.behind), put_kept c.put_byte.ensures.put ∙ c.put_whole.ensures.1.1),
)
