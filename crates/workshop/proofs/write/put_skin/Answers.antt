-- Each answer of the job's writer, and what is said of it.
use Rattle.std.proofs.Common.{refl, arith}
use Rattle.workshop.specs.Written.{few, unwritten_code, job_refusal, job_file}
use Rattle.workshop.proofs.write.put_skin.Goals as goal

pub overflow_mul-result : goal.overflow_mul-result
overflow_mul-result c = omega (arith, few _ _ c.requires (rw c.in-Ok.is at c.write_skin-written.ensures) refl)

pub overflow_add-result : goal.overflow_add-result
overflow_add-result c = omega (arith, few _ _ c.requires (rw c.in-Ok.is at c.write_skin-written.ensures) refl)

pub returns-in-Ok : goal.returns-in-Ok
returns-in-Ok c = job_file _ _ c.requires (rw c.in-Ok.is at c.write_skin-written.ensures) refl refl

pub returns-in-Err : goal.returns-in-Err
returns-in-Err c =
    let (code_is, place_is) = c.code_and_place-code.ensures in
    job_refusal _ _ c.requires (rw c.in-Err.is at c.write_skin-written.ensures) (unwritten_code c.in-Err.unwritten) (rw (code_is, place_is) at c.refused.ensures)
