-- Laws of a job: what is in it by its form and its header.
use Rattle.std.specs.Prelude.{◌≡◌, Bool, true, false, cond, List, ℕ, ◌*◌, ◌≤◌, length}
use Rattle.std.proofs.Math.Path.{refl}
use Rattle.std.proofs.Common.{zero-le, le_refl}
use Rattle.rules.specs.Table.{table_of}
use Rattle.rules.specs.Job.{Form, Header, header_of, has_points, asks_outward, point_bytes, rows_table, job_of}
use Rattle.rules.specs.Laws.Lists.{tabulate_length}

-- six bytes for each id, or none
pub points_few : (f : Form) (h : Header) → point_bytes f h ≤ 6 * h.ids
unfolding point_bytes
points_few f h = go (has_points f h)
  where
    go : (b : Bool) → cond b (6 * h.ids) 0 ≤ 6 * h.ids
    go true = le_refl (6 * h.ids)
    go false = zero-le

-- outward is asked for only where there are points
pub outward_pointed : (f : Form) (h : Header) → asks_outward f h ≡ true → has_points f h ≡ true
unfolding asks_outward has_points
outward_pointed f h e = rw e

module _ (f : Form) (bytes : List ℕ) where
  pub job_ids : (job_of f bytes).ids ≡ (header_of bytes).ids
  unfolding job_of
  job_ids = refl

  pub job_corners : (job_of f bytes).table.corners ≡ f.corners
  unfolding job_of rows_table table_of
  job_corners = refl

  pub job_rows : (job_of f bytes).table.rows ≡ (header_of bytes).rows
  unfolding job_of rows_table table_of
  job_rows = refl

  pub job_proposals : length (job_of f bytes).proposals ≡ (header_of bytes).proposals
  unfolding job_of
  job_proposals = tabulate_length (header_of bytes).proposals _
