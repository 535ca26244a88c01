use Rattle.rules.specs.Job.{short_rooms}
use Rattle.job.proofs.room_short.Goals as goal

pub returns : goal.returns
unfolding short_rooms
returns c = cc
