use Rattle.std.proofs.Common.{◌∙◌, ap, ℕ, ◌+◌, ◌-◌, replicate, arith, length-take-le, length-drop}
use Rattle.std.proofs.lemmas.List.{length-replicate}
use Rattle.std.proofs.Math.ListN.{drop}
use Rattle.words.specs.Stores.{stored}
use Rattle.stl.proofs.facet.put_zeros.Goals as goal

pub returns : goal.returns
returns c =
    let zeros = c.fill.ensures.after (λ y e. e) ∙ ap (λ (n : ℕ). replicate n 0) (rw (length-take-le (c.args.place + c.args.count - c.args.place) (drop c.args.place c.args.file.now) (omega (arith, length-drop c.args.place c.args.file.now, c.requires))) (omega arith)) in
    stored c.args.file.now c.fill.new.self (replicate c.args.count 0) c.args.place c.args.count zeros (length-replicate {A = ℕ} c.args.count 0) c.requires
