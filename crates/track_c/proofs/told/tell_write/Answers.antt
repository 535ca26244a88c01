use Rattle.std.proofs.Common.{rules}
use Rattle.stl.specs.Writing.{verdict_of}
use Rattle.track_c.specs.Told.{words_put, err_told}
use Rattle.track_c.proofs.told.tell_write.Goals as goal

pub narrow-requires : goal.narrow-requires
unfolding verdict_of
narrow-requires c = rw (err_told c.in-Err-Number.is (rw c.in-Err-Number.is at c.in-Err-Number.field-0-is)) at c.requires

pub returns-in-Ok : goal.returns-in-Ok
unfolding verdict_of
returns-in-Ok c = rw c.in-Ok.is (words_put _ _ (search rules))

pub returns-in-Err-Facets : goal.returns-in-Err-Facets
unfolding verdict_of
returns-in-Err-Facets c = rw (err_told c.in-Err-Facets.is (rw c.in-Err-Facets.is at c.in-Err-Facets.field-0-is)) (words_put _ _ (search rules))

pub returns-in-Err-Number : goal.returns-in-Err-Number
unfolding verdict_of
returns-in-Err-Number c = rw (err_told c.in-Err-Number.is (rw c.in-Err-Number.is at c.in-Err-Number.field-0-is), c.narrow.ensures) (words_put _ _ (search rules))

pub returns-in-Err-Room : goal.returns-in-Err-Room
unfolding verdict_of
returns-in-Err-Room c = rw (err_told c.in-Err-Room.is (rw c.in-Err-Room.is at c.in-Err-Room.field-0-is)) (words_put _ _ (search rules))
