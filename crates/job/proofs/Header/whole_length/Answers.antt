use Rattle.std.proofs.Common.{arith}
use Rattle.job.specs.Reading.{meant}
use Rattle.rules.specs.Job.{track}
use Rattle.rules.specs.Laws.Job.{points_few}
use Rattle.job.proofs.Header.whole_length.Goals as goal

pub overflow_add-result : goal.overflow_add-result
overflow_add-result c = omega (arith, c.point_bytes.ensures, points_few track (meant c.args.self))
