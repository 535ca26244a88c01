use Rattle.std.proofs.Common.{sym, ap, ◌∙◌, subst, ◌+◌, ◌*◌, rules}
use Rattle.std.proofs.lemmas.List.Edits.{sets}
use Rattle.rules.specs.Stl.{facet_at}
use Rattle.stl.specs.Corners.{Numbers, facet_corners}
use Rattle.stl.specs.Writing.{numbers_in}
use Rattle.stl.proofs.writer.put_facet_of.Goals as goal

pub put_facet-requires : goal.put_facet-requires
put_facet-requires c =
    let numbers = numbers_in c.args.units.now c.requires.3 in (
      search rules,
      subst Numbers (sym c.corner_in-a.ensures) (numbers (9 * c.args.f) (search rules)),
      subst Numbers (sym c.corner_in-b.ensures) (numbers (9 * c.args.f + 3) (search rules)),
      subst Numbers (sym c.corner_in-c.ensures) (numbers (9 * c.args.f + 6) (search rules)),
    )

pub returns : goal.returns
returns c =
    let units = c.args.units.now in
    let from = 9 * c.args.f in
    c.put_facet.ensures
    ∙ rw (c.corner_in-a.ensures, c.corner_in-b.ensures, c.corner_in-c.ensures)
    (ap (sets c.args.file.now (facet_at c.args.f)) (sym (facet_corners units from)))
