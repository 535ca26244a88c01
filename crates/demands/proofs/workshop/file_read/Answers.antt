use Rattle.demands.specs.Settled.{file_reading_is}
use Rattle.demands.proofs.workshop.file_read.Goals as goal

pub returns : goal.returns
returns c = file_reading_is _ c.read_file.ensures
