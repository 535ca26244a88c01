use Rattle.std.proofs.Common.{sym, ap, ◌∙◌, List, ℕ}
use Rattle.std.proofs.lemmas.List.Edits.{sets}
use Rattle.rules.specs.Laws.Stl.{header_length}
use Rattle.rules.specs.Laws.Written.{written_run}
use Rattle.rules.specs.Stl.{header}
use Rattle.rules.specs.Words.{bytes_of}
use Rattle.stl.proofs.facet.put_front.Goals as goal

pub returns : goal.returns
returns c =
    c.put_word.ensures ∙ ap (λ (l : List ℕ). sets l 80 (bytes_of 4 c.args.facets)) c.put_header.ensures
    ∙ written_run (bytes_of 4 c.args.facets) header c.args.file.now 80 (sym header_length) c.requires
