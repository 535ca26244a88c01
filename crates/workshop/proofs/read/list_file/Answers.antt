-- Each answer of the reader, and what is said of it.
use Rattle.std.proofs.Common.{refl, sym, length-take-le}
use Rattle.stl.specs.Reading.{verdict_of, off_in}
use Rattle.workshop.specs.Said.{bits_told, refusal}
use Rattle.workshop.specs.Laws.{refusal_said, within, facets_said}
use Rattle.workshop.proofs.read.list_file.Goals as goal

pub slice_bounds-units-end : goal.slice_bounds-units-end
slice_bounds-units-end c = within _ c.in-Ok.is c.read_file.ensures

pub slice_bounds-list_facets-end : goal.slice_bounds-list_facets-end
slice_bounds-list_facets-end c = sym (length-take-le _ _ (within _ c.in-Ok.is c.read_file.ensures))

pub returns-in-Ok : goal.returns-in-Ok
returns-in-Ok c = facets_said _ c.in-Ok.is c.read_file.ensures c.list_facets.ensures

pub returns-in-Err-Length : goal.returns-in-Err-Length
unfolding verdict_of off_in bits_told refusal
returns-in-Err-Length c = refusal_said _ (rw c.in-Err-Length.field-0-is at c.in-Err-Length.is) c.read_file.ensures refl refl c.refused.ensures

pub returns-in-Err-Header : goal.returns-in-Err-Header
unfolding verdict_of off_in bits_told refusal
returns-in-Err-Header c = refusal_said _ (rw c.in-Err-Header.field-0-is at c.in-Err-Header.is) c.read_file.ensures refl refl c.refused-in-Err-Header.ensures

pub returns-in-Err-Room : goal.returns-in-Err-Room
unfolding verdict_of off_in bits_told refusal
returns-in-Err-Room c = refusal_said _ (rw c.in-Err-Room.field-0-is at c.in-Err-Room.is) c.read_file.ensures refl refl c.refused-in-Err-Room.ensures

pub returns-in-Err-NotZero : goal.returns-in-Err-NotZero
unfolding verdict_of off_in bits_told refusal
returns-in-Err-NotZero c = refusal_said _ (rw c.in-Err-NotZero.field-0-is at c.in-Err-NotZero.is) c.read_file.ensures refl refl (rw c.in-Err-NotZero.field-0-is at c.refused-in-Err-NotZero.ensures)

pub returns-in-Err-Off : goal.returns-in-Err-Off
unfolding verdict_of off_in bits_told refusal
returns-in-Err-Off c = refusal_said _ (rw c.in-Err-Off.field-0-is at c.in-Err-Off.is) c.read_file.ensures refl refl (rw c.in-Err-Off.field-0-is at c.refused-in-Err-Off.ensures)
