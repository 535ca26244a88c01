use Rattle.std.proofs.lemmas.Bool.Decides.{Decides-eqb}
use Rattle.std.proofs.lemmas.Slice.Eq.{slice_eq-Decides}
use Rattle.rules.specs.Laws.Stl.{headed_reads}
use Rattle.rules.specs.Laws.Truth.{same_test}
use Rattle.rules.specs.Stl.{header, headed}
use Rattle.stl.proofs.header.is_headed.Goals as goal

pub returns : goal.returns
unfolding header
returns c =
    let file = c.args.file.now in
    let decides = slice_eq-Decides Decides-eqb _ header c.eq.result c.eq.ensures in
    let reads = headed_reads file c.requires in
    same_test c.eq.result (headed file) (λ t. reads.1 (decides.0 t)) (λ t. decides.1 (reads.0 t))
