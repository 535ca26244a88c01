use Rattle.std.proofs.Common.{refl, arith}
use Rattle.track.specs.Refusals.{refusal_code}
use Rattle.lines.specs.Listed.{listed, refused_is, done_fits, done_is}
use Rattle.lines.specs.Listing.{refused_text}
use Rattle.lines.proofs.list_job.Goals as goal

pub put_done-requires : goal.put_done-requires
put_done-requires c =
    let (a, b, d, e) = done_fits _ (rw c.in-Ok.is at c.run-ran.ensures) refl c.proposals_of.ensures c.run-ran.auto.answers c.run-ran.auto.triangles in (a, b, d, e, c.requires)

pub returns-in-Ok : goal.returns-in-Ok
returns-in-Ok c =
    listed _ (done_is _ (rw c.in-Ok.is at c.run-ran.ensures) refl c.proposals_of.ensures) c.put_done.ensures.0 (omega (arith, c.put_done.ensures.1, c.requires))

pub returns-in-Err : goal.returns-in-Err
unfolding refused_text
returns-in-Err c =
    let (code_is, place_is) = c.code_and_place-code.ensures in
    rw (← refused_is _ (rw c.in-Err.is at c.run-ran.ensures) (refusal_code c.in-Err.refusal), ← code_is, ← place_is) c.refused_line.ensures
