-- What is said lies within its buffer.
use Rattle.std.proofs.Common.{sym, length-take-le}
use Rattle.workshop.specs.Laws.{says_within}
use Rattle.workshop.proofs.write.print_skin.Goals as goal

pub slice_bounds-file-end : goal.slice_bounds-file-end
slice_bounds-file-end c = rw c.in-Ok-put_skin.is at (says_within c.put_skin.ensures)

pub slice_bounds-say-end : goal.slice_bounds-say-end
slice_bounds-say-end c = sym (length-take-le _ _ (rw c.in-Ok-put_skin.is at (says_within c.put_skin.ensures)))

pub slice_bounds-file-end-in-Err-put_skin : goal.slice_bounds-file-end-in-Err-put_skin
slice_bounds-file-end-in-Err-put_skin c = rw c.in-Err-put_skin.is at (says_within c.put_skin.ensures)

pub slice_bounds-tell_script-end : goal.slice_bounds-tell_script-end
slice_bounds-tell_script-end c = sym (length-take-le _ _ (rw c.in-Err-put_skin.is at (says_within c.put_skin.ensures)))
