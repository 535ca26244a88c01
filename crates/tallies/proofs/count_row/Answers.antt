use Rattle.std.proofs.Common.{arith}
use Rattle.tallies.specs.Counted.{counted_long, inside_counts, inside_counted, every_counts, every_counted}
use Rattle.tallies.proofs.count_row.Goals as goal

pub count_if-requires : goal.count_if-requires
count_if-requires c = (inside_counts c.requires.0.1 _ c.requires.1 c.tallies_at-first.ensures c.requires.2, c.requires.1)

pub overflow_add-first : goal.overflow_add-first
overflow_add-first c = omega (arith, c.tallies_at-first.ensures, counted_long _ _ _ _ c.requires.2)

pub count_if-requires-2 : goal.count_if-requires-2
count_if-requires-2 c = let tallies = c.tallies_at-first.ensures in let s = c.requires.0.1 in (every_counts s _ c.requires.1 tallies (inside_counted s _ c.requires.1 tallies c.requires.2 c.is_inside.ensures c.count_if.ensures), c.requires.1)

pub returns : goal.returns
returns c = let tallies = c.tallies_at-first.ensures in let s = c.requires.0.1 in every_counted s _ c.requires.1 tallies (inside_counted s _ c.requires.1 tallies c.requires.2 c.is_inside.ensures c.count_if.ensures) c.count_if-2.ensures
