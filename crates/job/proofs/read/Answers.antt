use Rattle.std.proofs.Common.{refl, rules, ap, not}
use Rattle.job.specs.Reading.{within_rooms, reads_short, reads_limits, reads_layout, reads_laid}
use Rattle.job.proofs.read.Goals as goal

pub returns-then-job-lt32 : goal.returns-then-job-lt32
returns-then-job-lt32 c = (reads_short _ c.if-job-lt32.true, refl)

pub returns-then-not-within_limits : goal.returns-then-not-within_limits
returns-then-not-within_limits c = (reads_limits _ (search rules) _ c.header_of-h.ensures _ c.within_limits.ensures (ap not c.if-not-within_limits.true), refl)

pub laid_out-requires : goal.laid_out-requires
laid_out-requires c = within_rooms _ (search rules) _ c.header_of-h.ensures _ c.within_limits.ensures (ap not c.if-not-within_limits.false)

pub returns-then-not-laid_out : goal.returns-then-not-laid_out
returns-then-not-laid_out c = (reads_layout _ (search rules) _ c.header_of-h.ensures _ c.within_limits.ensures (ap not c.if-not-within_limits.false) _ c.laid_out.ensures (ap not c.if-not-laid_out.true), refl)

pub returns : goal.returns
returns c = (reads_laid _ (search rules) _ c.header_of-h.ensures _ c.within_limits.ensures (ap not c.if-not-within_limits.false) _ c.laid_out.ensures (ap not c.if-not-laid_out.false), c.header_of-h.ensures)
