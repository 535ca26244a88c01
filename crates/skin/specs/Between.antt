-- The triangles between the two sides, by the neighbour list.
use Rattle.std.specs.Prelude.{◌≡◌, refl, Bool, true, false, not, List, ℕ, ◌+◌, ◌*◌, ◌<◌, get_or}
use Rattle.std.proofs.Common.{sym, ap, ◌∙◌}
use Rattle.std.proofs.Math.Bool.{xor}
use Rattle.std.specs.Bool.{beq}
use Rattle.rules.specs.Skin.{on_skin}
use Rattle.rules.specs.Proposals.{inside_in}
use Rattle.rules.specs.Reading.Skin.{skin_between}
use Rattle.table.specs.Rows.{rows_in, table_in}
use Rattle.table.specs.Ground.{Ground}

-- the marks of the row and of the row across differ
unfoldable pub between : List ℕ → List ℕ → ℕ → ℕ → Bool
between neighbours marks r c = xor (inside_in marks r) (inside_in marks (get_or neighbours (4 * r + c) 0))

pub unequal_xor : (a b : Bool) → not (beq a b) ≡ xor a b
unfolding xor
unequal_xor true true = refl
unequal_xor true false = refl
unequal_xor false true = refl
unequal_xor false false = refl

pub between_skin : {bytes neighbours : List ℕ} {ids : ℕ} → Ground bytes neighbours ids → (r c : ℕ) → r < rows_in bytes → c < 4 → (marks : List ℕ)
    → between neighbours marks r c ≡ on_skin (table_in bytes) (inside_in marks) r c
unfolding between
between_skin {bytes} on_ground r c l m marks =
    ap (λ (s : ℕ). xor (inside_in marks r) (inside_in marks s)) (on_ground.at r c l m)
    ∙ sym (skin_between (table_in bytes) (inside_in marks) on_ground.paired r c l m)
