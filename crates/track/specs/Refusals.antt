-- Document 01's code and place of each refusal.
use Rattle.std.specs.Prelude.{◌≡◌, Err}
use Rattle.std.proofs.Common.{arith}
use Rattle.rules.specs.First.{Verdict}
use Rattle.job.specs.Reading as job
use Rattle.table.specs.Closed as closed
use Rattle.marks.specs.Start as start
use Rattle.points.specs.Placed as placed
use Rattle.job.specs.declared.Refused.{Refused}
use Rattle.job.specs.declared.Refused.TheVariants.{Short, Limits, Layout}
use Rattle.table.specs.declared.Broken.{Broken}
use Rattle.table.specs.declared.Broken.TheVariants.{Row, Order, Triangle, Edge, Vertex}
use Rattle.marks.specs.declared.Unfit.{Unfit}
use Rattle.marks.specs.declared.Unfit.TheVariants as unfit
use Rattle.points.specs.declared.Misplaced.{Misplaced}
use Rattle.points.specs.declared.Misplaced.TheVariants.{Point, Flat, Folded}
use Rattle.track.specs.declared.refusal.Refusal.{Refusal}
use Rattle.track.specs.declared.refusal.Refusal.TheVariants.{Header, Room, Table, Marks, Points}

abbrev pub verdict_of : Refusal → Verdict
verdict_of (Header refused) = job.verdict_of (Err refused)
verdict_of Room = record { code = 4; place = 0 }
verdict_of (Table broken) = closed.verdict_of (Err broken)
verdict_of (Marks unfit) = start.verdict_of (Err unfit)
verdict_of (Points misplaced) = placed.verdict_of (Err misplaced)

-- ---- no refusal has code 0

pub header_code : (e : Refused) → (job.verdict_of (Err e)).code ≡ 0 → ⊥
header_code Short z = omega arith
header_code Limits z = omega arith
header_code Layout z = omega arith

pub broken_code : (e : Broken) → (closed.verdict_of (Err e)).code ≡ 0 → ⊥
broken_code (Row r) z = omega arith
broken_code (Order r) z = omega arith
broken_code (Triangle r) z = omega arith
broken_code (Edge r) z = omega arith
broken_code (Vertex r) z = omega arith

pub unfit_code : (e : Unfit) → (start.verdict_of (Err e)).code ≡ 0 → ⊥
unfit_code (unfit.Mark r) z = omega arith
unfit_code (unfit.Outer r) z = omega arith
unfit_code (unfit.Vertex v) z = omega arith

pub misplaced_code : (e : Misplaced) → (placed.verdict_of (Err e)).code ≡ 0 → ⊥
misplaced_code (Point v) z = omega arith
misplaced_code (Flat r) z = omega arith
misplaced_code (Folded r) z = omega arith

pub refusal_code : (e : Refusal) → (verdict_of e).code ≡ 0 → ⊥
refusal_code (Header e) z = header_code e z
refusal_code Room z = omega arith
refusal_code (Table e) z = broken_code e z
refusal_code (Marks e) z = unfit_code e z
refusal_code (Points e) z = misplaced_code e z
