-- Jobs with known results, each a theorem that antt computes: `Worked.Document` has those of document 01, `Worked.Ours` further ones, and
-- `Worked.Pointed` jobs with points. This module is how they are written down.
pub mod Document
pub mod Ours
pub mod Pointed
use Rattle.std.specs.Prelude.{ℕ, ◌+◌, ◌-◌, ◌*◌, ◌/◌, Bool, false, cond, leb, length, set, replicate}
use mathlib.Core.List.{List, [], ◌∷◌, ◌++◌, flatten}
use Rattle.rules.specs.Below.{or_else, found, lowest, any, all, all_but, bit, sum, count, gather, tabulate, only, pick}
use Rattle.rules.specs.Words.{word, words}
use Rattle.rules.specs.Shape.{facet, edge_table, vertices}
use Rattle.rules.specs.Joined.{those, unreached, none_left, connected}
use Rattle.rules.specs.Table.{table_of, rising, ids_below, before, holds, outer, side, neighbours, across, neighbour_list, triangles_shared, holds_face, face_joined, faces_joined, edges_joined, vertices_joined}
use Rattle.rules.specs.Skin.{on_skin, different, holds_three, far_edge, far_end, one_ring, skin_vertex, ringless, triangle, skin_of, skin_as}
use Rattle.rules.specs.Points.{signed, coordinate, point_in, in_range, on_grid, below_zero, above_zero, is_zero, same_sign, at_origin, from, triple, volume}
use Rattle.rules.specs.Outward.{product, side_of, on_triangle, fourth_id, far_id, off_grid, flat, same_side, folded, right_way, exchanged, triangle_as}
use Rattle.rules.specs.First.{given, first_match}
use Rattle.rules.specs.Cases.{other_side, free, triangles_on_skin, passes, refuses_at, case_tests}
use Rattle.rules.specs.Proposals.{inside_in, adds, answer_tests, answer, marks_after, answers_to, final_marks, taken}
use Rattle.rules.specs.Work.{tally, work_area}
use Rattle.rules.specs.Job.{Lent, Result, track, header_of, has_points, asks_outward, point_bytes, within_limits, laid_out, rows_table, proposal_in, points_of, job_of, short_rooms, room_short, written, layout_tests, room_tests, table_tests, unlike, mark_tests, shown, point_tests, job_tests, accepted, refused, verdict_on, run}

-- ---- a job's bytes

-- the header that document 01 asks for at V, N and P
abbrev pub header : ℕ → ℕ → ℕ → List ℕ
header ids n p = words (ids ∷ n ∷ p ∷ 32 ∷ (32 + 16 * n) ∷ (32 + 17 * n) ∷ (32 + 17 * n + 8 * p) ∷ 0 ∷ [])

-- a job of V ids: the rows' ids, the marks, and each proposal's row and kind
abbrev pub job : ℕ → List ℕ → List ℕ → List ℕ → List ℕ
job ids rows marks proposals = header ids (length rows / 4) (length proposals / 2) ++ words rows ++ marks ++ words proposals

-- ---- what is lent, and what comes back

-- the four buffers for V ids, n rows and p proposals, each one longer than needed and filled with 9s
abbrev pub lend : ℕ → ℕ → ℕ → Lent
lend ids n p = record {
  answers = replicate (p + 1) 9;
  final_marks = replicate (n + 1) 9;
  triangles = replicate (6 * n + 1) 9;
  work = replicate (4 * n + 2 * ids + 1) 9;
}

-- so long a buffer with these at its front, and 9s after them
abbrev pub front : ℕ → List ℕ → List ℕ
front size xs = xs ++ replicate (size - length xs) 9

-- code 0: the number of proposals taken and of skin triangles, then the answers, the final marks, the skin and the work area
abbrev pub done : ℕ → ℕ → List ℕ → List ℕ → List ℕ → List ℕ → Result
done taken triangles answers marks skin work =
    let n = length marks in
    record {
      code = 0;
      place = 0;
      taken = taken;
      triangles = triangles;
      left = record {
        answers = front (length answers + 1) answers;
        final_marks = front (n + 1) marks;
        triangles = front (6 * n + 1) skin;
        work = front (length work + 1) work;
      };
    }

-- a refusal of a job of V ids, n rows and p proposals, by its code and place
abbrev pub refusal : ℕ → ℕ → ℕ → ℕ → ℕ → Result
refusal ids n p code place = record {
  code = code;
  place = place;
  taken = 0;
  triangles = 0;
  left = record {
    answers = replicate (p + 1) 9;
    final_marks = replicate (n + 1) 9;
    triangles = replicate (6 * n + 1) 9;
    work = cond (leb code 4) (replicate (4 * n + 2 * ids + 1) 9) (front (4 * n + 2 * ids + 1) (replicate (4 * n + 2 * ids) 0));
  };
}

-- a job, its buffers, and what a run of it gives
pub record Worked : Type 0 where
  pub bytes : List ℕ
  pub lent : Lent
  pub result : Result

unfoldable pub ran : Worked → Result
unfolding within_limits or_else found lowest any all all_but bit sum count gather tabulate only pick word facet edge_table vertices those unreached none_left connected table_of rising ids_below before holds outer side neighbours across neighbour_list triangles_shared holds_face face_joined faces_joined edges_joined vertices_joined on_skin different holds_three far_edge far_end one_ring skin_vertex ringless triangle skin_of skin_as signed coordinate point_in in_range on_grid below_zero above_zero is_zero same_sign at_origin from triple volume product side_of on_triangle fourth_id far_id off_grid flat same_side folded right_way exchanged triangle_as given first_match other_side free triangles_on_skin passes refuses_at case_tests inside_in adds answer_tests answer marks_after answers_to final_marks taken tally work_area header_of has_points asks_outward point_bytes laid_out rows_table proposal_in points_of job_of short_rooms room_short written layout_tests room_tests table_tests unlike mark_tests shown point_tests job_tests accepted refused verdict_on run flatten
ran w = run track w.bytes w.lent

abbrev pub known : Worked → Result
known w = w.result

abbrev pub accepts : ℕ → List ℕ → List ℕ → List ℕ → Result → Worked
accepts ids rows marks proposals result = record {
  bytes = job ids rows marks proposals;
  lent = lend ids (length rows / 4) (length proposals / 2);
  result = result;
}

abbrev pub refuses : ℕ → List ℕ → List ℕ → List ℕ → ℕ → ℕ → Worked
refuses ids rows marks proposals code place = record {
  bytes = job ids rows marks proposals;
  lent = lend ids (length rows / 4) (length proposals / 2);
  result = refusal ids (length rows / 4) (length proposals / 2) code place;
}

-- a refusal of these bytes that leaves all four buffers as they were lent
abbrev pub keeps : List ℕ → Lent → ℕ → Worked
keeps bytes lent code = record {
  bytes = bytes;
  lent = lent;
  result = record { code = code; place = 0; taken = 0; triangles = 0; left = lent };
}

-- ---- tables, marks and proposals

abbrev pub row : ℕ → ℕ → ℕ → ℕ → List ℕ
row a b c d = a ∷ b ∷ c ∷ d ∷ []

abbrev pub three : ℕ → ℕ → ℕ → List ℕ
three a b c = a ∷ b ∷ c ∷ []

abbrev pub edge : ℕ → ℕ → List ℕ
edge a b = a ∷ b ∷ []

-- each edge of the first list with each of the second
abbrev pub with_each : List ℕ → List (List ℕ) → List ℕ
with_each edge [] = []
with_each edge (other ∷ others) = edge ++ other ++ with_each edge others

abbrev pub join : List (List ℕ) → List (List ℕ) → List ℕ
join [] others = []
join (edge ∷ edges) others = with_each edge others ++ join edges others

abbrev pub table_a : List ℕ
table_a = row 0 1 2 3 ++ row 0 1 2 4 ++ row 0 1 3 4 ++ row 0 2 3 4 ++ row 1 2 3 4

-- each edge of 0 1 2 with one of 34, 36, 45, 56
abbrev pub table_b : List ℕ
table_b = join (edge 0 1 ∷ edge 0 2 ∷ edge 1 2 ∷ []) (edge 3 4 ∷ edge 3 6 ∷ edge 4 5 ∷ edge 5 6 ∷ [])

-- each edge of the ring 0 1 2 3 4 with each edge of the ring 5 6 7
abbrev pub table_c : List ℕ
table_c = join (edge 0 1 ∷ edge 0 4 ∷ edge 1 2 ∷ edge 2 3 ∷ edge 3 4 ∷ []) (edge 5 6 ∷ edge 5 7 ∷ edge 6 7 ∷ [])

-- A with 5 put into its finite row, 6 into 2 3 4 5, 7 into 3 4 5 6 and 8 into 4 5 6 7: no outer row holds 5, 6, 7 or 8
abbrev pub table_d : List ℕ
table_d =
    row 0 1 2 3 ++ row 0 1 2 4 ++ row 0 1 3 4 ++ row 0 2 3 4 ++ row 1 2 3 5 ++ row 1 2 4 5 ++ row 1 3 4 5
    ++ row 2 3 4 6 ++ row 2 3 5 6 ++ row 2 4 5 6 ++ row 3 4 5 7 ++ row 3 4 6 7 ++ row 3 5 6 7 ++ row 4 5 6 8
    ++ row 4 5 7 8 ++ row 4 6 7 8 ++ row 5 6 7 8

-- n marks, all 0 but for those of the given rows
abbrev pub marked : ℕ → List ℕ → List ℕ
marked n [] = replicate n 0
marked n (r ∷ rs) = set (marked n rs) r 1

abbrev pub proposal : ℕ → ℕ → List ℕ
proposal r kind = r ∷ kind ∷ []

abbrev pub add : ℕ → List ℕ
add r = proposal r 1

abbrev pub remove : ℕ → List ℕ
remove r = proposal r 2
