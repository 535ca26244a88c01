use Rattle.std.proofs.Common.{ap, ◌∙◌, List, ℕ, ◌+◌, replicate}
use Rattle.std.proofs.lemmas.List.Edits.{sets}
use Rattle.stl.specs.Corners.{corners_bytes, facet_put}
use Rattle.stl.proofs.facet.put_facet.Goals as goal

pub returns : goal.returns
returns c =
    let p = c.args.place in
    let a = c.args.a in
    let b = c.args.b in
    let d = c.args.c in
    c.put_zeros-2.ensures
    ∙ ap (λ (l : List ℕ). sets l (p + 48) (replicate 2 0)) (c.put_corners.ensures ∙ ap (λ (l : List ℕ). sets l (p + 12) (corners_bytes a b d)) c.put_zeros.ensures)
    ∙ facet_put c.args.file.now p a b d
