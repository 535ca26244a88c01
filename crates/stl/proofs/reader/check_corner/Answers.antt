use Rattle.std.proofs.Common.{◌≡◌, sym, ap, ◌∙◌, List, ℕ, ◌+◌, ◌*◌, ℤ, arith}
use Rattle.std.specs.Prelude.{Result, from_bits}
use Rattle.std.specs.Result.{result_and}
use Rattle.std.specs.Float.{binary32}
use Rattle.std.proofs.lemmas.Result.{err_from_is_err_and}
use Rattle.rules.specs.Stl.{number_at, bits_at}
use Rattle.rules.specs.Words.{word}
use Rattle.grid.specs.Numbers.{read}
use Rattle.grid.specs.declared.OffGrid.{OffGrid}
use Rattle.stl.specs.Corners.{float_at, corner_at}
use Rattle.stl.specs.Faults.{corner_fault, was_read, three_say}
use Rattle.stl.specs.declared.corner.Corner.{Corner}
use Rattle.stl.proofs.reader.check_corner.Goals as goal

-- what is read from the bits at a place is what number k says
said : (file : List ℕ) (f k : ℕ) {bits place : ℕ} {r : Result ℤ OffGrid} → r ≡ read bits f → bits ≡ word 4 file place → place ≡ number_at f k → read (bits_at file f k) f ≡ r
unfolding bits_at
said file f k e at place = sym (e ∙ ap (λ (bits : ℕ). read bits f) (at ∙ ap (word 4 file) place))

pub number_of-x-requires : goal.number_of-x-requires
unfolding float_at corner_at
number_of-x-requires c = ap (λ (at : Corner). at.x) c.corner_at-c.ensures ∙ ap (from_bits binary32) (sym c.word_at.ensures)

pub number_of-y-requires : goal.number_of-y-requires
unfolding float_at corner_at
number_of-y-requires c = ap (λ (at : Corner). at.y) c.corner_at-c.ensures ∙ ap (from_bits binary32) (sym c.word_at-2.ensures)

pub number_of-z-requires : goal.number_of-z-requires
unfolding float_at corner_at
number_of-z-requires c = ap (λ (at : Corner). at.z) c.corner_at-c.ensures ∙ ap (from_bits binary32) (sym c.word_at-3.ensures)

pub returns-in_err-and : goal.returns-in_err-and
unfolding corner_fault
returns-in_err-and c =
    let file = c.args.file.now in let f = c.args.facet in let k = 3 * c.args.corner in
    let p = err_from_is_err_and c.from_residual.result c.from_residual.ensures.1 in
    rw (
      p.1,
      p.2,
      said file f k c.number_of-x.ensures c.word_at.ensures (omega arith),
      said file f (k + 1) c.number_of-y.ensures c.word_at-2.ensures (omega arith),
      said file f (k + 2) c.number_of-z.ensures c.word_at-3.ensures (omega arith),
    )
    (ap was_read (sym c.in_err-and.was ∙ c.and-2.ensures ∙ ap (λ (r : Result ℤ OffGrid). result_and r c.number_of-z.result) c.and.ensures) ∙ three_say _ _ _)

pub returns : goal.returns
unfolding corner_fault
returns c =
    let file = c.args.file.now in let f = c.args.facet in let k = 3 * c.args.corner in
    rw (
      said file f k c.number_of-x.ensures c.word_at.ensures (omega arith),
      said file f (k + 1) c.number_of-y.ensures c.word_at-2.ensures (omega arith),
      said file f (k + 2) c.number_of-z.ensures c.word_at-3.ensures (omega arith),
    )
    (ap was_read (sym c.in_ok-and.was ∙ c.and-2.ensures ∙ ap (λ (r : Result ℤ OffGrid). result_and r c.number_of-z.result) c.and.ensures) ∙ three_say _ _ _)
