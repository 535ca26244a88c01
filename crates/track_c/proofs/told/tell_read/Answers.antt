use Rattle.std.proofs.Common.{rules}
use Rattle.stl.specs.Reading.{verdict_of, facets_in, off_in}
use Rattle.track_c.specs.Told.{bits_back, words_put, err_told}
use Rattle.track_c.proofs.told.tell_read.Goals as goal

pub returns-in-Ok : goal.returns-in-Ok
unfolding verdict_of facets_in off_in bits_back
returns-in-Ok c = rw c.in-Ok.is (words_put _ _ (search rules))

pub returns-in-Err-Length : goal.returns-in-Err-Length
unfolding verdict_of facets_in off_in bits_back
returns-in-Err-Length c = rw (err_told c.in-Err-Length.is (rw c.in-Err-Length.is at c.in-Err-Length.field-0-is)) (words_put _ _ (search rules))

pub returns-in-Err-Header : goal.returns-in-Err-Header
unfolding verdict_of facets_in off_in bits_back
returns-in-Err-Header c = rw (err_told c.in-Err-Header.is (rw c.in-Err-Header.is at c.in-Err-Header.field-0-is)) (words_put _ _ (search rules))

pub returns-in-Err-Room : goal.returns-in-Err-Room
unfolding verdict_of facets_in off_in bits_back
returns-in-Err-Room c = rw (err_told c.in-Err-Room.is (rw c.in-Err-Room.is at c.in-Err-Room.field-0-is)) (words_put _ _ (search rules))

pub returns-in-Err-NotZero : goal.returns-in-Err-NotZero
unfolding verdict_of facets_in off_in bits_back
returns-in-Err-NotZero c = rw (err_told c.in-Err-NotZero.is (rw c.in-Err-NotZero.is at c.in-Err-NotZero.field-0-is)) (words_put _ _ (search rules))

pub returns-in-Err-Off : goal.returns-in-Err-Off
unfolding verdict_of facets_in off_in bits_back
returns-in-Err-Off c = rw (err_told c.in-Err-Off.is (rw c.in-Err-Off.is at c.in-Err-Off.field-0-is)) (words_put _ _ (search rules))
