use Rattle.track_c.specs.Told.{read_told}
use Rattle.track_c.proofs.files.track_stl_read.Goals as goal

pub returns : goal.returns
returns c = read_told _ _ _ c.read_file.ensures _ c.tell_read.ensures
