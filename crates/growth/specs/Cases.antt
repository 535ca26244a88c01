-- The five cases as the code asks them: by the number of marks across that differ from the row's own.
use Rattle.std.specs.Prelude.{◌≡◌, refl, ◌≢◌, Bool, cond, List, ℕ, ◌+◌, ◌<◌}
use Rattle.std.proofs.Math.Path.{sym, ap}
use Rattle.std.proofs.Common.{ap₂, ◌∙◌, arith}
use Rattle.rules.specs.Below.{all, pick}
use Rattle.rules.specs.Skin.{on_skin}
use Rattle.rules.specs.Cases.{other_side, free, triangles_on_skin, passes, case_answer}
use Rattle.rules.specs.Proposals.{inside_in}
use Rattle.rules.specs.Laws.Count.{count_same}
use Rattle.rules.specs.Laws.Lists.{pick_same}
use Rattle.rules.specs.Laws.Cases.{more_pass}
use Rattle.rules.proofs.Laws.Cases.{case_answer_lem}
use Rattle.table.specs.Rows.{table_in, rows_in}
use Rattle.table.specs.Ground.{Ground}
use Rattle.skin.specs.Between.{between, between_skin}
use Rattle.growth.specs.Free.{vertex_free}
use Rattle.growth.specs.Around.{Counted, counted_one}

module _ {rows neighbours : List ℕ} {ids : ℕ} (ground : Ground rows neighbours ids) (marks : List ℕ) (adding : Bool) (r : ℕ) (l : r < rows_in rows)
    {f last : ℕ} (c : Counted (between neighbours marks r) 4 f last) where
  f_is : triangles_on_skin (table_in rows) (inside_in marks) r ≡ f
  unfolding triangles_on_skin
  f_is = sym (c.counted ∙ count_same 4 (between neighbours marks r) (on_skin (table_in rows) (inside_in marks) r) (λ k m. between_skin ground r k l m marks))

  left_out_is : pick 4 (between neighbours marks r) ≡ pick 4 (on_skin (table_in rows) (inside_in marks) r)
  left_out_is = pick_same 4 (between neighbours marks r) (on_skin (table_in rows) (inside_in marks) r) (λ k m. between_skin ground r k l m marks)

  -- the answer, where what the case of f asks for is free or not
  told : {k : ℕ} {unhindered : Bool} → f ≡ k → unhindered ≡ passes (table_in rows) (inside_in marks) adding r → cond unhindered 0 (5 + k) ≡ case_answer (table_in rows) (inside_in marks) adding r
  told e is = ap₂ (λ (b : Bool) (n : ℕ). cond b 0 (5 + n)) is (sym e ∙ sym f_is) ∙ sym (case_answer_lem (table_in rows) (inside_in marks) adding r)

  module _ {unhindered : Bool} where
    pub case_none : f ≡ 0 → unhindered ≡ all 4 (vertex_free (table_in rows) (other_side adding (inside_in marks)) r) → cond unhindered 0 5 ≡ case_answer (table_in rows) (inside_in marks) adding r
    unfolding passes vertex_free
    case_none e is = told e (is ∙ sym (rw (f_is ∙ e)))

    pub case_one : f ≡ 1 → unhindered ≡ vertex_free (table_in rows) (other_side adding (inside_in marks)) r last → cond unhindered 0 6 ≡ case_answer (table_in rows) (inside_in marks) adding r
    unfolding passes vertex_free
    case_one e is = told e (is ∙ ap (free (table_in rows) (other_side adding (inside_in marks)) r) (sym (counted_one c e).1 ∙ left_out_is) ∙ sym (rw (f_is ∙ e)))

    pub case_two : f ≡ 2 → unhindered ≡ free (table_in rows) (other_side adding (inside_in marks)) r (pick 4 (between neighbours marks r))
        → cond unhindered 0 7 ≡ case_answer (table_in rows) (inside_in marks) adding r
    unfolding passes
    case_two e is = told e (is ∙ ap (free (table_in rows) (other_side adding (inside_in marks)) r) left_out_is ∙ sym (rw (f_is ∙ e)))

  pub case_more : f ≢ 0 → f ≢ 1 → f ≢ 2 → 0 ≡ case_answer (table_in rows) (inside_in marks) adding r
  case_more n₀ n₁ n₂ = told refl (sym (more_pass (table_in rows) (inside_in marks) adding r (omega (arith, f_is, n₀, n₁, n₂))))
