-- Where an id, a mark, a proposal and a point stand in the job file, and what its word 7 says.
use Rattle.std.proofs.Math.Path.{◌≡◌}
use Rattle.std.proofs.Common.{◌∙◌, add_assoc, mul_comm, mul-suc, mul-le-mul_left, get_or-take, get_or-drop}
use Rattle.std.specs.Prelude.{◌↔◌, Bool, true, false, cond, List, get_or}
use Rattle.std.proofs.Math.Option.{some, none}
use Prim.Native.Nat.{ℕ, ◌+◌, ◌*◌, ◌≤◌, ◌<◌}
use Rattle.std.proofs.Math.Nat.{mul_assoc}
use native.Mathlib.Omega.{arith}
use Rattle.rules.specs.Words.{word}
use Rattle.rules.specs.Table.{table_of}
use Rattle.rules.specs.Points.{Point, signed, coordinate, point_in}
use Rattle.rules.specs.Proposals.{Proposal}
use Rattle.rules.specs.Job.{Form, header_of, row_bytes, rows_at, marks_at, proposals_at, points_at, has_points, asks_outward, point_bytes, section, rows_table, proposal_in, points_of, job_of}
use Rattle.rules.specs.Laws.Truth.{eqb_reads}
use Rattle.rules.specs.Laws.Lists.{tabulate_at}
use Rattle.rules.specs.Laws.Places.{place_below}
use Rattle.rules.specs.Laws.Words.{word_part}

-- a proposal of a part is one of the whole
pub proposal_part : (bytes : List ℕ) (start size k : ℕ) → 8 * k + 8 ≤ size
    → proposal_in (section bytes start size) k ≡ record { row = word 4 bytes (start + 8 * k); kind = word 4 bytes (start + 8 * k + 4) }
unfolding proposal_in
proposal_part bytes start size k l =
    rw (word_part 4 bytes start size (8 * k) (omega arith), word_part 4 bytes start size (8 * k + 4) (omega arith), add_assoc)

module _ (f : Form) (bytes : List ℕ) where
  -- for a track the word at byte 32 + 16r + 4c
  pub id_stands : (r c : ℕ) → r < (header_of bytes).rows → c < f.corners → (job_of f bytes).table.id r c ≡ word f.width bytes (rows_at + f.width * (f.corners * r + c))
  unfolding job_of rows_table table_of
  id_stands r c l k =
      let n = (header_of bytes).rows in
      let place = f.corners * r + c in
      let below = place_below (omega arith) n r c l k in
      tabulate_at (f.corners * n) _ 0 place below ∙ word_part f.width bytes rows_at (row_bytes f * n) (f.width * place) (fits place n below)
    where
      fits : (place n : ℕ) → place < f.corners * n → f.width * place + f.width ≤ row_bytes f * n
      fits place n below = rw (mul_comm f.corners f.width, mul_assoc, ← mul-suc) (mul-le-mul_left f.width below)

  pub mark_stands : (r : ℕ) → r < (header_of bytes).rows → get_or (job_of f bytes).marks r 0 ≡ get_or bytes (marks_at f (header_of bytes) + r) 0
  unfolding job_of
  mark_stands r l = rw (get_or-take, get_or-drop)

  pub proposal_stands : (d : Proposal) (k : ℕ) → k < (header_of bytes).proposals
      → get_or (job_of f bytes).proposals k d
      ≡ record { row = word 4 bytes (proposals_at f (header_of bytes) + 8 * k); kind = word 4 bytes (proposals_at f (header_of bytes) + 8 * k + 4) }
  unfolding job_of
  proposal_stands d k l =
      let h = header_of bytes in
      tabulate_at h.proposals _ d k l ∙ proposal_part bytes (proposals_at f h) (8 * h.proposals) k (omega arith)

  -- the skin is to be listed outward exactly if word 7 says so: for a track, if it is 1
  pub outward_exactly : ((job_of f bytes).outward ≡ true) ↔ ((header_of bytes).mode ≡ f.mode + 1)
  unfolding job_of asks_outward
  outward_exactly = eqb_reads (header_of bytes).mode (f.mode + 1)

  -- for a track the point of id v is the three i16 from byte 32 + 17N + 8P + 6v on
  pub point_stands : (at : ℕ → Point) → (job_of f bytes).points ≡ some at → (v : ℕ) → v < (header_of bytes).ids
      → let place = points_at f (header_of bytes) + 6 * v in
      at v ≡ record { x = coordinate bytes place; y = coordinate bytes (place + 2); z = coordinate bytes (place + 4) }
  unfolding job_of points_of point_bytes point_in coordinate
  point_stands at e v l = go (has_points f (header_of bytes)) e
    where
      start : ℕ
      start = points_at f (header_of bytes)

      go : (b : Bool) → cond b (some (point_in (section bytes start (cond b (6 * (header_of bytes).ids) 0)))) none ≡ some at
          → at v ≡ record { x = signed (word 2 bytes (start + 6 * v)); y = signed (word 2 bytes (start + 6 * v + 2)); z = signed (word 2 bytes (start + 6 * v + 4)) }
      go true q =
          let is : at ≡ point_in (section bytes start (6 * (header_of bytes).ids)) = cc in
          rw is (rw (
            word_part 2 bytes start (6 * (header_of bytes).ids) (6 * v) (omega arith),
            word_part 2 bytes start (6 * (header_of bytes).ids) (6 * v + 2) (omega arith),
            word_part 2 bytes start (6 * (header_of bytes).ids) (6 * v + 4) (omega arith),
            add_assoc start (6 * v) 2,
            add_assoc start (6 * v) 4,
          ))
      go false q = let z : ◌≡◌ {A = ℕ} 0 1 = cc in absurd (omega arith)
