use Rattle.std.proofs.Common.{ap, ◌∙◌, List, ℕ, ◌+◌}
use Rattle.std.proofs.lemmas.List.Edits.{sets}
use Rattle.stl.specs.Corners.{corner_bytes, corners_put}
use Rattle.stl.proofs.facet.put_corners.Goals as goal

pub returns : goal.returns
returns c =
    let p = c.args.place in
    let a = c.args.a in
    let b = c.args.b in
    let d = c.args.c in
    c.put_corner-3.ensures
    ∙ ap (λ (l : List ℕ). sets l (p + 24) (corner_bytes d)) (c.put_corner-2.ensures ∙ ap (λ (l : List ℕ). sets l (p + 12) (corner_bytes b)) c.put_corner.ensures)
    ∙ corners_put c.args.file.now p a b d
