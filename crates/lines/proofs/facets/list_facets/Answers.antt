use Rattle.std.proofs.Common.{refl, arith, rules}
use Rattle.lines.specs.Facets.{unit_text, facets_text}
use Rattle.lines.specs.Page.{Puts, puts_front}
use Rattle.lines.specs.Put.{put_front}
use Rattle.lines.proofs.facets.list_facets.Goals as goal

pub returns : goal.returns
unfolding facets_text
returns c =
    let puts : Puts (facets_text c.args.units.now) _ c.put_each.new.self = c.put_each.ensures.texts (unit_text c.args.units.now) (λ k p p' q. search rules) in
    put_front (puts_front puts refl refl (search rules)) (omega (arith, puts.put.behind, c.put_each.ensures.few.0, c.requires))
