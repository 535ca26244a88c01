use Rattle.std.proofs.Common.{ap, ◌∙◌, List, ℕ, ◌+◌}
use Rattle.std.proofs.lemmas.List.Edits.{sets}
use Rattle.std.specs.Float.{binary32}
use Rattle.std.specs.Float.Ieee.{to_bits}
use Rattle.rules.specs.Words.{bytes_of}
use Rattle.stl.specs.Corners.{corner_put}
use Rattle.stl.proofs.corner.put_corner.Goals as goal

pub returns : goal.returns
returns c =
    let p = c.args.place in
    c.put_word-3.ensures
    ∙ ap (λ (l : List ℕ). sets l (p + 8) (bytes_of 4 (to_bits binary32 c.args.c.z)))
    (c.put_word-2.ensures ∙ ap (λ (l : List ℕ). sets l (p + 4) (bytes_of 4 (to_bits binary32 c.args.c.y))) c.put_word.ensures)
    ∙ corner_put c.args.file.now p c.args.c
