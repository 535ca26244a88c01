use Rattle.std.proofs.Common.{◌≡◌, List, sym, ◌∙◌, subst, false, ℕ, ◌*◌, ◌≤◌, ◌<◌, arith, lt-ltb, le-ltb, length}
use Rattle.rules.specs.Stl.{most_facets, file_length, count_in, ill_sized}
use Rattle.rules.specs.Words.{word}
use Rattle.stl.specs.Reading.{reading}
use Rattle.trips.specs.Readable.{sized_exactly}
use Rattle.stl.proofs.reader.judge.Goals as goal

-- a file of the right length
right : (file : List ℕ) → ill_sized file ≡ false → (length file ≡ file_length (count_in file)) × (count_in file ≤ most_facets)
right file sized = (sized_exactly file).0 sized

-- what the code reads as the count
counted : (file : List ℕ) {count : ℕ} → count ≡ word 4 file 80 → count ≡ count_in file
unfolding count_in
counted file e = e

pub returns-then-is_ill_sized : goal.returns-then-is_ill_sized
unfolding reading
returns-then-is_ill_sized c = rw (sym c.is_ill_sized.ensures ∙ c.if-is_ill_sized.true)

pub is_headed-requires : goal.is_headed-requires
is_headed-requires c = let r = right c.args.file.now (sym c.is_ill_sized.ensures ∙ c.if-is_ill_sized.false) in omega (arith, r.0)

pub returns-then-not-is_headed : goal.returns-then-not-is_headed
unfolding reading
returns-then-not-is_headed c = rw (sym c.is_ill_sized.ensures ∙ c.if-is_ill_sized.false, sym c.is_headed.ensures ∙ c.if-not-is_headed.true)

pub word_at-count-requires : goal.word_at-count-requires
word_at-count-requires c = let r = right c.args.file.now (sym c.is_ill_sized.ensures ∙ c.if-is_ill_sized.false) in omega (arith, r.0)

pub returns-then-room-count : goal.returns-then-room-count
unfolding reading
returns-then-room-count c =
    let room = c.args.room in
    rw (sym c.is_ill_sized.ensures ∙ c.if-is_ill_sized.false, sym c.is_headed.ensures ∙ c.if-not-is_headed.false, lt-ltb _ _ (subst (λ (n : ℕ). room < 9 * n) (counted c.args.file.now c.word_at-count.ensures) c.if-room-count.true))

pub look_through-requires : goal.look_through-requires
look_through-requires c =
    let file-right = right c.args.file.now (sym c.is_ill_sized.ensures ∙ c.if-is_ill_sized.false) in
    let count = counted c.args.file.now c.word_at-count.ensures in
    (omega (arith, file-right.0), omega (arith, file-right.1), count)

pub returns : goal.returns
unfolding reading
returns c =
    let room = c.args.room in
    rw (sym c.is_ill_sized.ensures ∙ c.if-is_ill_sized.false, sym c.is_headed.ensures ∙ c.if-not-is_headed.false, le-ltb _ _ (subst (λ (n : ℕ). 9 * n ≤ room) (counted c.args.file.now c.word_at-count.ensures) c.if-room-count.false)) c.look_through.ensures
