-- The work area for marks: rows of the other side at an id, and a row that goes to the other side.
use Rattle.std.specs.Prelude.{◌≡◌, refl, Bool, true, false, ℕ, ◌+◌, ◌-◌, ◌*◌, ◌≤◌, ◌<◌, length, get_or, set}
use Rattle.std.proofs.Math.Path.{sym, ap}
use Rattle.std.proofs.Common.{◌∙◌, arith}
use mathlib.Core.List.{List, ◌++◌}
use mir.Val.{bool_byte}
use Rattle.std.proofs.lemmas.Bool.{not-false}
use Rattle.rules.specs.Below.{bit, tabulate}
use Rattle.rules.specs.Table.{Table, holds, neighbour_list}
use Rattle.rules.specs.Cases.{other_side}
use Rattle.rules.specs.Proposals.{inside_in}
use Rattle.rules.specs.Work.{tally, every_row, work_area}
use Rattle.rules.specs.Job.{most_rows}
use Rattle.rules.specs.Laws.Count.{bit_one}
use Rattle.rules.specs.Laws.Lists.{tabulate_same}
use Rattle.rules.specs.Laws.Proposals.{set_inside, set_elsewhere}
use Rattle.rules.specs.Laws.Work.{tally_few, tally_sides, tally_with}
use Rattle.rules.specs.Reading.Rows.{holds_reads}
use Rattle.rules.specs.Reading.Closed.{Closed, list_length}
use Rattle.rules.specs.Reading.Work.{work_length, work_across, work_inside, work_every}
use Rattle.table.specs.Rows.{rows_in, id_in, table_in}
use Rattle.table.specs.Ground.{Ground, ClosedGround}
use Rattle.tallies.specs.Steps.{shifted, RowSteppable, step_row, row_stepped}

-- a truth as a number, as the code has it and as `rules` does
pub bit_of : (b : Bool) → bool_byte b ≡ bit b
unfolding bit
bit_of true = refl
bit_of false = refl

-- a closed table, a mark for each row, and the work area for these marks: what growing rests on
pub record Area (rows work marks : List ℕ) (ids : ℕ) : Type 0 where
  pub few : rows_in rows ≤ most_rows
  pub closed : Closed (table_in rows) ids
  pub each : length marks ≡ rows_in rows
  pub area : work ≡ work_area (table_in rows) ids marks

module _ {rows work marks : List ℕ} {ids : ℕ} (a : Area rows work marks ids) where
  abbrev t : Table
  t = table_in rows

  pub area_long : length work ≡ 4 * rows_in rows + 2 * ids
  area_long = ap length a.area ∙ work_length t ids marks

  -- the neighbour list stands at its front
  pub area_ground : Ground rows work ids
  area_ground = record {
    few = a.few;
    paired = a.closed.paired;
    room = omega (arith, area_long);
    at = λ r c l m. ap (λ (xs : List ℕ). get_or xs (4 * r + c) 0) a.area ∙ work_across t ids marks r c l m;
  }

  pub area_closed : ClosedGround rows work
  area_closed = (ids, area_ground, a.closed)

  pub id_below : (r c : ℕ) → r < rows_in rows → c < 4 → id_in rows r c < ids
  id_below r c l m = a.closed.paired.below r l c m

  inside_at : (v : ℕ) → v < ids → get_or work (4 * rows_in rows + v) 0 ≡ tally t (inside_in marks) v
  inside_at v l = ap (λ (xs : List ℕ). get_or xs (4 * rows_in rows + v) 0) a.area ∙ work_inside t ids marks v l

  every_at : (v : ℕ) → v < ids → get_or work (4 * rows_in rows + ids + v) 0 ≡ tally t every_row v
  every_at v l = ap (λ (xs : List ℕ). get_or xs (4 * rows_in rows + ids + v) 0) a.area ∙ work_every t ids marks v l

  -- ---- rows of the other side at an id

  -- by what the code reads: for an add inside, for a remove all less inside
  module _ {first : ℕ} (ef : first ≡ 4 * rows_in rows) {v : ℕ} (l : v < ids) {inside : ℕ} (ei : inside ≡ get_or work (first + v) 0) where
    read_inside : inside ≡ tally t (inside_in marks) v
    read_inside = ei ∙ rw ef (inside_at v l)

    pub others_add : {adding : Bool} → adding ≡ true → inside ≡ tally t (other_side adding (inside_in marks)) v
    unfolding other_side
    others_add on = rw on read_inside

    module _ {every : ℕ} (ee : every ≡ get_or work (first + ids + v) 0) where
      read_every : every ≡ tally t every_row v
      read_every = ee ∙ rw ef (every_at v l)

      pub others_fit : inside ≤ every
      others_fit = omega (arith, read_inside, read_every, tally_sides t (inside_in marks) v)

      pub others_remove : {adding : Bool} → adding ≡ false → every - inside ≡ tally t (other_side adding (inside_in marks)) v
      unfolding other_side
      others_remove off = rw off (omega (arith, read_inside, read_every, tally_sides t (inside_in marks) v))

  -- ---- a row that goes to the other side

  module _ (adding : Bool) (r : ℕ) (l : r < rows_in rows) (here : other_side adding (inside_in marks) r ≡ false) where
    abbrev marks' : List ℕ
    marks' = set marks r (bit adding)

    there : inside_in marks' r ≡ adding
    there = set_inside marks r adding (rw a.each l)

    one_more : adding ≡ true → (v : ℕ) → tally t (inside_in marks') v ≡ tally t (inside_in marks) v + bit (holds t r v)
    unfolding other_side
    one_more on v = tally_with t (inside_in marks) (inside_in marks') r v l (rw on at here) (there ∙ on) (set_elsewhere marks r (bit adding))

    one_less : adding ≡ false → (v : ℕ) → tally t (inside_in marks) v ≡ tally t (inside_in marks') v + bit (holds t r v)
    unfolding other_side
    one_less off v =
        tally_with t (inside_in marks') (inside_in marks) r v l (there ∙ off) (not-false (inside_in marks r) (rw off at here))
        (λ s ne. sym (set_elsewhere marks r (bit adding) s ne))

    flipped_tally : (v : ℕ) → tally t (inside_in marks') v ≡ shifted adding (tally t (inside_in marks) v) (bit (holds t r v))
    flipped_tally v = go adding refl
      where
        go : (up : Bool) → adding ≡ up → tally t (inside_in marks') v ≡ shifted up (tally t (inside_in marks) v) (bit (holds t r v))
        go true on = one_more on v
        go false off = omega (arith, one_less off v)

    pub row_flipped : {first : ℕ} → first ≡ 4 * rows_in rows → step_row t first adding r 4 work ≡ work_area t ids marks'
    unfolding work_area
    row_flipped {first} ef =
        ap (step_row t first adding r 4) a.area
        ∙ row_stepped t adding r ids (a.closed.paired.rising r l) (a.closed.paired.below r l) (tally t (inside_in marks)) (neighbour_list t) (tabulate ids (tally t every_row)) (ef ∙ sym (list_length t))
        ∙ ap (λ (zs : List ℕ). neighbour_list t ++ (zs ++ tabulate ids (tally t every_row))) (tabulate_same ids _ (tally t (inside_in marks')) (λ v _. sym (flipped_tally v)))

    pub row_flips : {first : ℕ} → first ≡ 4 * rows_in rows → RowSteppable t first adding r work
    row_flips ef = rw ef (record {
      rises = a.closed.paired.rising r l;
      each = λ c m. let v = id_in rows r c in let lv = id_below r c l m in
          record {
            there = omega (arith, area_long, lv);
            most = λ _. rw (inside_at v lv) (omega (arith, tally_few t (inside_in marks) v, a.few));
            least = λ off. rw (inside_at v lv) (omega (arith, one_less off v, bit_one ((holds_reads t r v).1 (c, m, refl))));
          };
    })
