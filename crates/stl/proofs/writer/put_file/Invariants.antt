use Rattle.std.proofs.Common.{◌*◌}
use Rattle.rules.specs.Laws.Stl.{facet_length}
use Rattle.rules.specs.Stl.{facet_bytes}
use Rattle.stl.specs.Filling.{Filled}
use Rattle.stl.proofs.writer.put_file.Given as goal

abbrev pub invariant-loop-f : goal.invariant-loop-f
invariant-loop-f l = Filled l.facets (λ k. facet_bytes l.units (9 * k)) (λ k. facet_length l.units (9 * k)) l.initial.file l.f l.file
