use Rattle.std.proofs.Common.{◌∙◌, ◌+◌, pos, get_or, to_z-of_z, rules}
use Rattle.std.specs.Int.{w16}
use Rattle.stl.specs.Corners.{corner_in}
use Rattle.stl.proofs.writer.corner_in.Goals as goal

pub returns : goal.returns
unfolding corner_in
returns c =
    let units = c.args.units.now in
    let from = c.args.from in
    c.corner_of.ensures
    ∙ rw (
      to_z-of_z {w = w16} {z = get_or units from (pos 0)} (search rules),
      to_z-of_z {w = w16} {z = get_or units (from + 1) (pos 0)} (search rules),
      to_z-of_z {w = w16} {z = get_or units (from + 2) (pos 0)} (search rules),
    )
