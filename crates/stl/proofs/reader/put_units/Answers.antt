use Rattle.std.proofs.Common.{ap, ◌∙◌, ℕ, ◌*◌, to_z-of_z, rules}
use Rattle.std.specs.Int.{w16}
use Rattle.rules.specs.Below.{tabulate}
use Rattle.rules.specs.Job.{written}
use Rattle.rules.specs.Stl.{unit_at, units_in}
use Rattle.stl.specs.Units.{fill_begins, fill_turn, fill_ends}
use Rattle.stl.proofs.reader.put_units.Goals as goal

pub loop-i-init : goal.loop-i-init
loop-i-init c = fill_begins (unit_at c.args.file.now) c.args.units.now (9 * c.args.count) (search rules)

pub loop-i-preserved : goal.loop-i-preserved
loop-i-preserved c = fill_turn c.loop-i.invariant (search rules) (to_z-of_z {w = w16} {z = c.unit_at.result} (search rules) ∙ c.unit_at.ensures)

pub returns : goal.returns
unfolding units_in
returns c =
    fill_ends c.loop-i.invariant (search rules) ∙ ap (λ (n : ℕ). written (tabulate (9 * n) (unit_at c.args.file.now)) c.args.units.now) c.requires.2
