use Rattle.std.proofs.Common.{Ok, refl, sym, ◌∙◌, arith, ap, not}
use Rattle.track_stl.specs.Ran.{outward_few, no_points, short_room, in_file}
use borrow.Author.Tests.{not-true, not-false}
use Rattle.track_stl.specs.Outcomes.{outcome_of}
use Rattle.track_stl.proofs.write_ran.Goals as goal

pub returns-then-not-has_points : goal.returns-then-not-has_points
returns-then-not-has_points c =
    let off = sym c.has_points.ensures ∙ not-true c.has_points.result (ap not c.if-not-has_points.true) in
    (refl, λ left. no_points c.args.job.now c.requires.0.is (outcome_of (Ok c.args.ran)) left c.args.file.now off)

pub overflow_mul-ran : goal.overflow_mul-ran
overflow_mul-ran c = record { fits = omega (arith, c.requires.1, outward_few c.requires.0) }

pub overflow_add-ran : goal.overflow_add-ran
overflow_add-ran c = record { fits = omega (arith, c.requires.1, outward_few c.requires.0) }

pub returns-then-file-ran : goal.returns-then-file-ran
returns-then-file-ran c =
    let on = sym c.has_points.ensures ∙ not-false c.has_points.result (ap not c.if-not-has_points.false) in
    (refl, λ left. short_room c.args.job.now c.requires.0.is (outcome_of (Ok c.args.ran)) left c.args.file.now on c.if-file-ran.true)

pub returns : goal.returns
returns c =
    let on = sym c.has_points.ensures ∙ not-false c.has_points.result (ap not c.if-not-has_points.false) in
    let (kept, in-it) = c.put_skin.ensures in
    (kept, λ left. in_file c.args.job.now c.requires.0.is (outcome_of (Ok c.args.ran)) left c.args.file.now on c.if-file-ran.false in-it)
