-- The listing lies within its buffer.
use Rattle.std.proofs.Common.{sym, length-take-le}
use Rattle.lines.specs.Put.{front_within}
use Rattle.listing.proofs.main.Goals as goal

pub slice_bounds-out-end : goal.slice_bounds-out-end
slice_bounds-out-end c = front_within _ _ c.list_job-length.ensures

pub slice_bounds-print_whole-end : goal.slice_bounds-print_whole-end
slice_bounds-print_whole-end c = sym (length-take-le _ _ (front_within _ _ c.list_job-length.ensures))
