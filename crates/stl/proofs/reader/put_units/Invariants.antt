use Rattle.std.proofs.Common.{◌*◌}
use Rattle.rules.specs.Stl.{unit_at}
use Rattle.stl.specs.Units.{Filled}
use Rattle.stl.proofs.reader.put_units.Given as goal

abbrev pub invariant-loop-i : goal.invariant-loop-i
invariant-loop-i l = Filled (unit_at l.file) l.initial.units (9 * l.count) l.i l.units
