use Rattle.track_c.specs.Told.{write_fits, write_told}
use Rattle.track_c.proofs.files.track_stl_write.Goals as goal

pub tell_write-requires : goal.tell_write-requires
tell_write-requires c = write_fits _ _ _ c.write_facets.ensures

pub returns : goal.returns
returns c = write_told _ _ _ c.write_facets.ensures _ c.tell_write.ensures
