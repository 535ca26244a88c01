use Rattle.std.proofs.Common.{ℕ, ◌/◌, ◌<◌, ◌∙◌, subst, arith}
use Rattle.lines.specs.Lines.{digit_long, digit_put, front_shorter, last_room, last_put}
use Rattle.lines.proofs.text.Page.+put_number.Goals as goal

pub put_byte-requires : goal.put_byte-requires
put_byte-requires t c = omega (arith, digit_long c.if-n-lt10.true, c.requires)

pub returns-then-n-lt10 : goal.returns-then-n-lt10
returns-then-n-lt10 t c = record { same = c.put_byte.ensures.same; put = digit_put c.if-n-lt10.true c.put_byte.ensures.put }

pub put_number-requires : goal.put_number-requires
put_number-requires t c =
    (subst (λ (j : ℕ). c.args.n / 10 < j) c.decreases (omega (arith, c.if-n-lt10.false)), omega (arith, front_shorter c.if-n-lt10.false, c.requires))

pub put_byte-requires-2 : goal.put_byte-requires-2
put_byte-requires-2 t c = omega (arith, last_room c.if-n-lt10.false c.requires c.put_number.ensures.put)

pub returns : goal.returns
returns t c = record {
  same = c.put_byte-2.ensures.same ∙ c.put_number.ensures.same;
  put = last_put c.if-n-lt10.false c.put_number.ensures.put c.put_byte-2.ensures.put;
}
