-- Two files that differ in the order they ask for alone, and two runs that differ in nothing but the order. That the order changes nothing
-- else is proved in `proofs.Reading.Order`.
use Rattle.std.specs.Prelude.{◌≡◌, ◌≢◌, ℕ, ◌<◌, length, drop}
use mathlib.Core.List.{List}
use Rattle.rules.specs.Job.{Form, header_word, header_of, rows_at, Result}
use Rattle.rules.specs.Reading.Codes.{WithPoints}

-- two runs give and leave the same, but for what is left in triangles where they are not refused
pub record SameButTriangles (r s : Result) : Type 0 where
  pub codes_same : r.code ≡ s.code
  pub places_same : r.place ≡ s.place
  pub taken_same : r.taken ≡ s.taken
  pub triangles_same : r.triangles ≡ s.triangles
  pub answers_same : r.left.answers ≡ s.left.answers
  pub marks_same : r.left.final_marks ≡ s.left.final_marks
  pub work_same : r.left.work ≡ s.left.work
  pub refused_same : r.code ≢ 0 → r.left.triangles ≡ s.left.triangles

-- two files of the same words 0 to 6 and the same bytes behind the header, each of which says that it has points
pub record OtherOrder (f : Form) (one other : List ℕ) : Type 0 where
  pub words_same : (i : ℕ) → i < 7 → header_word one i ≡ header_word other i
  pub one_points : WithPoints f (header_of one)
  pub other_points : WithPoints f (header_of other)
  pub behind_same : drop rows_at one ≡ drop rows_at other
  pub as_long : length one ≡ length other
