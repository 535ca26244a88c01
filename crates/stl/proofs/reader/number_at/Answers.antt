use Rattle.std.proofs.Common.{◌≡◌, ap, ◌∙◌, ℕ, ◌+◌, ◌*◌, arith}
use Rattle.rules.specs.Stl.{bits_at}
use Rattle.rules.specs.Stl as rules
use Rattle.rules.specs.Words.{word}
use Rattle.grid.specs.Numbers.{read}
use Rattle.stl.proofs.reader.number_at.Goals as goal

pub returns : goal.returns
unfolding bits_at
returns c =
    let place : 96 + 50 * c.args.facet + 4 * c.args.k ≡ rules.number_at c.args.facet c.args.k = omega arith in
    c.number_of.ensures ∙ ap (λ (bits : ℕ). read bits c.args.facet) (c.word_at-bits.ensures ∙ ap (word 4 c.args.file.now) place)
