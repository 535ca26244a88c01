use Rattle.std.proofs.Common.{arith}
use Rattle.lines.specs.Put.{put_kept}
use Rattle.lines.specs.Units.{few_of, minus_puts, plain_puts}
use Rattle.lines.proofs.facets.put_whole.Goals.{then-units-lt0, else-units-lt0}
use Rattle.lines.proofs.facets.put_whole.Goals as goal

pub put_number-requires : goal.put_number-requires
put_number-requires c =
    elim c.if-units-lt0.branch [
      | then-units-lt0 w ↦
          rw w.page-is (omega (arith, c.requires, few_of c.size_of-size.ensures.1, w.put_byte.ensures.put.behind, put_kept w.put_byte.ensures.put))
      | else-units-lt0 w ↦ rw w.page-is (omega (arith, c.requires, few_of c.size_of-size.ensures.1))
    ]

pub returns : goal.returns
returns c =
    elim c.if-units-lt0.branch [
      | then-units-lt0 w ↦
          minus_puts c.ranges.units c.size_of-size.ensures w.if-units-lt0.true w.put_byte.ensures (rw w.page-is at c.put_number.ensures)
      | else-units-lt0 w ↦ plain_puts c.ranges.units c.size_of-size.ensures w.if-units-lt0.false (rw w.page-is at c.put_number.ensures)
    ]
