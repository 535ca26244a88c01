use Rattle.std.proofs.Common.{lt-ltb, le-ltb}
use Rattle.rules.specs.Stl.{count_in, ill_sized}
use Rattle.stl.proofs.reader.is_ill_sized.Goals as goal

pub returns-then-file-lt84 : goal.returns-then-file-lt84
unfolding ill_sized
returns-then-file-lt84 c = rw (lt-ltb _ _ c.if-file-lt84.true)

pub returns-then-count-gt4096 : goal.returns-then-count-gt4096
unfolding ill_sized count_in
returns-then-count-gt4096 c =
    let low = c.if-file-lt84.false in
    let count = c.word_at-count.ensures in
    rw (le-ltb _ _ low, ← count, lt-ltb _ _ c.if-count-gt4096.true)

pub returns-else-count-gt4096 : goal.returns-else-count-gt4096
unfolding ill_sized count_in
returns-else-count-gt4096 c =
    let low = c.if-file-lt84.false in
    let count = c.word_at-count.ensures in
    rw (le-ltb _ _ low, ← count, le-ltb _ _ c.if-count-gt4096.false)
