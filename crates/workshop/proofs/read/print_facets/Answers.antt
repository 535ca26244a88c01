-- What is said lies within its buffer.
use Rattle.std.proofs.Common.{sym, length-take-le}
use Rattle.workshop.specs.Laws.{says_within}
use Rattle.workshop.proofs.read.print_facets.Goals as goal

pub slice_bounds-out-end : goal.slice_bounds-out-end
slice_bounds-out-end c = rw c.in-Ok-list_file.is at (says_within c.list_file.ensures)

pub slice_bounds-say-end : goal.slice_bounds-say-end
slice_bounds-say-end c = sym (length-take-le _ _ (rw c.in-Ok-list_file.is at (says_within c.list_file.ensures)))

pub slice_bounds-out-end-in-Err-list_file : goal.slice_bounds-out-end-in-Err-list_file
slice_bounds-out-end-in-Err-list_file c = rw c.in-Err-list_file.is at (says_within c.list_file.ensures)

pub slice_bounds-tell_script-end : goal.slice_bounds-tell_script-end
slice_bounds-tell_script-end c = sym (length-take-le _ _ (rw c.in-Err-list_file.is at (says_within c.list_file.ensures)))
