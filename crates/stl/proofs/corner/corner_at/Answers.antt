use Rattle.std.proofs.Common.{ap, ◌∙◌}
use Rattle.std.specs.Prelude.{from_bits}
use Rattle.std.specs.Float.{binary32}
use Rattle.stl.specs.Corners.{float_at, corner_at}
use Rattle.stl.proofs.corner.corner_at.Goals as goal

pub returns : goal.returns
unfolding float_at corner_at
returns c =
    rw (
      c.float_of.ensures ∙ ap (from_bits binary32) c.word_at.ensures,
      c.float_of-2.ensures ∙ ap (from_bits binary32) c.word_at-2.ensures,
      c.float_of-3.ensures ∙ ap (from_bits binary32) c.word_at-3.ensures,
    )
