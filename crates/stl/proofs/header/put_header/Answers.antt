use Rattle.std.proofs.Common.{ap, ◌++◌, List, ℕ}
use Rattle.std.proofs.Math.ListN.{drop}
use Rattle.rules.specs.Job.{written}
use Rattle.rules.specs.Stl.{header}
use Rattle.stl.proofs.header.put_header.Goals as goal

pub returns : goal.returns
unfolding written header
returns c = ap (λ (front : List ℕ). front ++ drop 80 c.args.file.now) c.copy_from_slice.ensures.after
