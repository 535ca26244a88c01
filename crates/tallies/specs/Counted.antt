-- The tallies of the rows counted so far.
use Rattle.std.specs.Prelude.{◌≡◌, Bool, false, ◌&&◌, ℕ, ◌+◌, ◌-◌, ◌*◌, ◌≤◌, ◌<◌, length, take, drop, replicate}
use Rattle.std.proofs.Math.Path.{refl, sym, ap}
use Rattle.std.proofs.Common.{ap₂, ◌∙◌, le_antisymm, add-zero, arith, drop_of_length-le, length-drop, take_at}
use Rattle.std.proofs.Math.Bool.{true, cond}
use mathlib.Core.List.{List, [], ◌++◌, append-nil, append_assoc}
use Rattle.std.proofs.Math.ListN.{length-append}
use Rattle.std.proofs.lemmas.List.{length-replicate, get_or-replicate, replicate-append-replicate}
use borrow.Rule.Slice.PartMut.{mid_of, post_of, put_mid}
use Rattle.rules.specs.Below.{bit, sum, count, tabulate}
use Rattle.rules.specs.Table.{Table, holds, neighbour_list}
use Rattle.rules.specs.Proposals.{inside_in}
use Rattle.rules.specs.Work.{tally, every_row, work_area}
use Rattle.rules.specs.Job.{most_rows, written}
use Rattle.rules.specs.Laws.Truth.{not_both}
use Rattle.rules.specs.Laws.Count.{bit_zero, count_more, count_not}
use Rattle.rules.specs.Laws.Lists.{tabulate_length, tabulate_is, tabulate_same, part_length}
use Rattle.rules.specs.Reading.Closed.{Paired, list_length}
use Rattle.rules.specs.Reading.Work.{laid_length}
use Rattle.table.specs.Rows.{rows_in, id_in, table_in}
use Rattle.tallies.specs.Steps.{RowSteppable, step_row, row_stepped, tally_at}

-- rows, a mark for each, and a work area of the right length with the neighbour list at its front
pub record Listed (rows work marks : List ℕ) (ids : ℕ) : Type 0 where
  pub few : rows_in rows ≤ most_rows
  pub paired : Paired (table_in rows) ids
  pub each : length marks ≡ rows_in rows
  pub list : work ≡ written (neighbour_list (table_in rows)) work
  pub long : length work ≡ 4 * rows_in rows + 2 * ids

-- how many of the first k rows hold v, of those that pass
unfoldable pub so_far : Table → (ℕ → Bool) → ℕ → ℕ → ℕ
so_far t p k v = count k (λ r. p r && holds t r v)

-- the work area when k rows are counted
unfoldable pub counted : Table → ℕ → List ℕ → ℕ → List ℕ
counted t ids marks k = neighbour_list t ++ (tabulate ids (so_far t (inside_in marks) k) ++ tabulate ids (so_far t every_row k))

-- and row k at its ids in the inside rows, but not yet in all
unfoldable pub half_counted : Table → ℕ → List ℕ → ℕ → List ℕ
half_counted t ids marks k = neighbour_list t ++ (tabulate ids (so_far t (inside_in marks) (k + 1)) ++ tabulate ids (so_far t every_row k))

-- when all rows are
pub counted_all : (t : Table) (ids : ℕ) (marks : List ℕ) (k : ℕ) {work : List ℕ} → work ≡ counted t ids marks k → k ≤ t.rows → t.rows ≤ k → work ≡ work_area t ids marks
unfolding counted so_far tally work_area
counted_all t ids marks k e l m = e ∙ ap (counted t ids marks) (le_antisymm l m)

pub counted_long : (t : Table) (ids : ℕ) (marks : List ℕ) (k : ℕ) {work : List ℕ} → work ≡ counted t ids marks k → length work ≡ t.corners * t.rows + 2 * ids
unfolding counted
counted_long t ids marks k e = ap length e ∙ laid_length t ids (so_far t (inside_in marks) k) (so_far t every_row k)

-- none so far: the part behind the neighbour list, lent by itself, is cleared to its end
pub counted_none : {rows work marks : List ℕ} {ids : ℕ} → Listed rows work marks ids → {n : ℕ} → n ≡ 4 * rows_in rows → {behind : List ℕ}
    → behind ≡ replicate (length (mid_of n (length work - n) work)) 0 → put_mid n (length work - n) work behind ≡ counted (table_in rows) ids marks 0
unfolding counted so_far count sum written
counted_none {rows} {work} {marks} {ids} s {n} e {behind} z = ap₂ (λ (x y : List ℕ). x ++ y) front (ap₂ (λ (x y : List ℕ). x ++ y) (z ∙ rest) none_after ∙ append-nil _)
  where
    t : Table
    t = table_in rows

    full : length (neighbour_list t) ≡ n
    full = list_length t ∙ sym e

    front : take n work ≡ neighbour_list t
    front = ap (take n) s.list ∙ take_at (neighbour_list t) (drop (length (neighbour_list t)) work) n full

    none_after : post_of n (length work - n) work ≡ []
    none_after = let l : length (drop n work) ≤ length work - n = omega (arith, length-drop n work) in drop_of_length-le (drop n work) l

    zeros : tabulate {A = ℕ} ids (λ _. 0) ≡ replicate ids 0
    zeros = tabulate_is {A = ℕ} ids (λ _. 0) 0 (replicate ids 0) (length-replicate {A = ℕ} ids 0) (λ k l. sym (get_or-replicate {A = ℕ} ids k 0 0 l))

    rest : replicate (length (mid_of n (length work - n) work)) 0 ≡ tabulate {A = ℕ} ids (λ _. 0) ++ tabulate {A = ℕ} ids (λ _. 0)
    rest =
        let long : length (mid_of n (length work - n) work) ≡ ids + ids = part_length work n (length work - n) (omega (arith, s.long, e)) ∙ omega (arith, s.long, e) in
        rw (long, zeros) (sym (replicate-append-replicate ids ids 0))

-- ---- one row more

module _ {rows work₀ marks : List ℕ} {ids : ℕ} (s : Listed rows work₀ marks ids) (k : ℕ) (l : k < rows_in rows) where
  abbrev t : Table
  t = table_in rows

  -- somewhere in a list, for those that pass
  module _ (p : ℕ → Bool) (front back : List ℕ) {first : ℕ} (e : first ≡ length front) where
    before : List ℕ
    before = front ++ (tabulate ids (so_far t p k) ++ back)

    can_count : RowSteppable t first true k before
    unfolding before so_far
    can_count = record {
      rises = s.paired.rising k l;
      each = λ c m. let v = id_in rows k c in let lv = s.paired.below k l c m in
          record {
            there = omega (arith, e, lv, length-append front (tabulate ids (so_far t p k) ++ back), length-append (tabulate ids (so_far t p k)) back, tabulate_length ids (so_far t p k));
            most = λ _.
                rw (tally_at t true k ids (s.paired.rising k l) (s.paired.below k l) (so_far t p k) front back e c m) (omega (arith, count_not k (λ r. p r && holds t r v), s.few));
            least = λ off. absurd (not_both refl off);
          };
    }

    counts : (b : Bool) → b ≡ p k → cond b (step_row t first true k 4 before) before ≡ front ++ (tabulate ids (so_far t p (k + 1)) ++ back)
    unfolding before so_far
    counts b eb = go b eb ∙ ap (λ (zs : List ℕ). front ++ (zs ++ back)) (tabulate_same ids _ (so_far t p (k + 1)) one_more)
      where
        one_more : (v : ℕ) → v < ids → so_far t p k v + bit (b && holds t k v) ≡ so_far t p (k + 1) v
        one_more v _ = rw eb (sym (count_more k (λ r. p r && holds t r v)))

        go : (b : Bool) → b ≡ p k → cond b (step_row t first true k 4 before) before ≡ front ++ (tabulate ids (λ v. so_far t p k v + bit (b && holds t k v)) ++ back)
        go true _ = row_stepped t true k ids (s.paired.rising k l) (s.paired.below k l) (so_far t p k) front back e
        go false _ = ap (λ (zs : List ℕ). front ++ (zs ++ back)) (tabulate_same ids (so_far t p k) _ (λ v _. sym (ap (λ (m : ℕ). so_far t p k v + m) (bit_zero {b = false} refl) ∙ add-zero (so_far t p k v))))

  -- at its ids, of the inside rows
  module _ {first : ℕ} (ef : first ≡ 4 * rows_in rows) {work : List ℕ} (is : work ≡ counted t ids marks k) where
    inside_at : first ≡ length (neighbour_list t)
    inside_at = ef ∙ sym (list_length t)

    pub inside_counts : RowSteppable t first true k work
    unfolding counted before
    inside_counts = rw is (can_count (inside_in marks) (neighbour_list t) (tabulate ids (so_far t every_row k)) inside_at)

    pub inside_counted : {b : Bool} → b ≡ inside_in marks k → {work' : List ℕ} → work' ≡ cond b (step_row t first true k 4 work) work → work' ≡ half_counted t ids marks k
    unfolding counted half_counted before
    inside_counted {b} eb e =
        e ∙ ap (λ (xs : List ℕ). cond b (step_row t first true k 4 xs) xs) is ∙ counts (inside_in marks) (neighbour_list t) (tabulate ids (so_far t every_row k)) inside_at b eb

  -- and of all rows
  module _ {first : ℕ} (ef : first ≡ 4 * rows_in rows) {work : List ℕ} (is : work ≡ half_counted t ids marks k) where
    front : List ℕ
    front = neighbour_list t ++ tabulate ids (so_far t (inside_in marks) (k + 1))

    every_at : first + ids ≡ length front
    unfolding front
    every_at = omega (arith, ef, length-append (neighbour_list t) (tabulate ids (so_far t (inside_in marks) (k + 1))), list_length t, tabulate_length ids (so_far t (inside_in marks) (k + 1)))

    regrouped : (zs : List ℕ) → neighbour_list t ++ (tabulate ids (so_far t (inside_in marks) (k + 1)) ++ zs) ≡ front ++ (zs ++ [])
    unfolding front
    regrouped zs = sym (append_assoc (neighbour_list t) (tabulate ids (so_far t (inside_in marks) (k + 1))) zs) ∙ ap (λ (ys : List ℕ). front ++ ys) (sym (append-nil zs))

    work_is : work ≡ front ++ (tabulate ids (so_far t every_row k) ++ [])
    unfolding half_counted
    work_is = is ∙ regrouped (tabulate ids (so_far t every_row k))

    pub every_counts : RowSteppable t (first + ids) true k work
    unfolding before
    every_counts = rw work_is (can_count every_row front [] every_at)

    pub every_counted : {work' : List ℕ} → work' ≡ step_row t (first + ids) true k 4 work → work' ≡ counted t ids marks (k + 1)
    unfolding counted before
    every_counted e =
        e ∙ ap (step_row t (first + ids) true k 4) work_is ∙ counts every_row front [] every_at true refl ∙ sym (regrouped (tabulate ids (so_far t every_row (k + 1))))
