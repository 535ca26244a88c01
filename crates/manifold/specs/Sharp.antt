-- The vertex rule is needed: without it the five cases refuse what would leave the skin clean.
-- Two copies of A's table share one finite vertex, rows of 0 1 2 3 4 and of 1 5 6 7 8, and every row of the second is inside. The table
-- keeps the rules 5 to 8 and breaks the vertex rule alone. The skin is empty, so clean. Adding row 1 2 3 4 has f = 0 and is refused,
-- since inside rows hold vertex 1; yet the skin with it would be clean.
use Rattle.std.specs.Prelude.{◌≡◌, refl, true, List, [], ◌∷◌, ◌++◌, ℕ}
use Rattle.std.proofs.Common.{lit≤}
use Rattle.rules.specs.Below.{count}
use Rattle.rules.specs.Table.{Table, table_of}
use Rattle.rules.specs.Skin.{on_skin, clean, skin}
use Rattle.rules.specs.First.{first_match}
use Rattle.rules.specs.Proposals.{Proposal, inside_in, answer, RefusedByCases}
use Rattle.rules.specs.Job.{table_tests}
use Rattle.rules.specs.Worked.{ran, row, marked}
use Rattle.manifold.specs.Steps.{flipped}

unfoldable pub copies : Table
copies =
    table_of 4 10
    (row 0 1 2 3 ++ row 0 1 2 4 ++ row 0 1 3 4 ++ row 0 2 3 4 ++ row 1 2 3 4 ++ row 1 5 6 7 ++ row 1 5 6 8 ++ row 1 5 7 8 ++ row 1 6 7 8 ++ row 5 6 7 8)

unfoldable pub second_inside : List ℕ
second_inside = marked 10 (5 ∷ 6 ∷ 7 ∷ 8 ∷ 9 ∷ [])

abbrev pub add_row_4 : Proposal
add_row_4 = record { row = 4; kind = 1 }

pub record Sharp : Type 0 where
  pub vertex_rule_alone : first_match 5 (table_tests copies 9) ≡ record { code = 9; place = 0 }
  pub skin_empty : skin copies (inside_in second_inside) ≡ []
  pub skin_clean : clean copies (inside_in second_inside) 9 ≡ true
  pub f_is_0 : count 4 (on_skin copies (inside_in second_inside) 4) ≡ 0
  pub refused : RefusedByCases (answer copies second_inside add_row_4)
  pub clean_with_it : clean copies (inside_in (flipped second_inside add_row_4)) 9 ≡ true

pub sharp : Sharp
unfolding ran copies second_inside clean
sharp = record { vertex_rule_alone = refl; skin_empty = refl; skin_clean = refl; f_is_0 = refl; refused = (lit≤ tt, lit≤ tt); clean_with_it = refl }
