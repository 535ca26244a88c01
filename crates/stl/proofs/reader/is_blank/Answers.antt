use Rattle.stl.specs.Faults.{blank_parts}
use Rattle.stl.proofs.reader.is_blank.Goals as goal

pub returns : goal.returns
returns c =
    rw (c.word_at.ensures, c.word_at-2.ensures, c.word_at-3.ensures)
    (blank_parts c.args.file.now c.args.facet)
