use Rattle.std.proofs.Common.{sym, ◌∙◌}
use Rattle.rules.specs.Job.{point_bytes}
use Rattle.job.proofs.Header.point_bytes.Goals as goal

pub returns-then-has_points : goal.returns-then-has_points
unfolding point_bytes
returns-then-has_points c = rw (sym c.has_points.ensures ∙ c.if-has_points.true)

pub returns : goal.returns
unfolding point_bytes
returns c = rw (sym c.has_points.ensures ∙ c.if-has_points.false)
