-- Code 15 asked once for each triangle: two neighbours are on the same side of it for either of them, so the lower one asks.
use Rattle.std.specs.Prelude.{◌≡◌, refl, ◌≢◌, Bool, true, false, ◌&&◌, List, ℕ, ◌+◌, ◌*◌, ◌≤◌, ◌<◌, ltb, get_or, ℤ}
use Rattle.std.proofs.Common.{sym, ◌∙◌, arith, lit<, le_refl, le_trans}
use Rattle.std.proofs.Math.Path.{ap}
use Rattle.std.proofs.Math.Logic.{⊎_elim}
use Rattle.std.proofs.Math.Bool.{not, and_comm, and-false}
use Rattle.std.proofs.Math.Option.{none}
use borrow.Author.Tests.{lt-ltb, le-ltb}
use Rattle.rules.specs.Below.{lowest, any}
use Rattle.rules.specs.Table.{Table, outer, across}
use Rattle.rules.specs.Skin.{triangle}
use Rattle.rules.specs.Points.{Point, below_zero, above_zero, same_sign}
use Rattle.rules.specs.Outward.{side_of, far_id, same_side, folded}
use Rattle.rules.specs.Laws.Truth.{same_test, and_second, and_both, not_both, is_false, lower_or_higher}
use Rattle.rules.specs.Laws.Below.{Lowest, any_some, any_here, none_any, lowest_none, is_lowest, none_lowest, lowest_or_none}
use Rattle.rules.specs.Reading.Rows.{Holds}
use Rattle.rules.specs.Reading.Neighbours.{Side}
use Rattle.rules.specs.Reading.Closed.{Paired, across_is, across_other, across_below}
use Rattle.rules.specs.Reading.Outer.{outer_reads, outer_first}
use Rattle.table.specs.declared.faces.Face.{Face}
use Rattle.table.specs.Rows.{id_in, table_in, rows_in}
use Rattle.table.specs.Ground.{Ground}
use Rattle.table.specs.Faces.{corner_of, face_of, corner_below}
use Rattle.points.specs.Sides.{triangle_face, side_at, side_face, each_corner, id_sum, face_sum, row_sum, shared_face, far_corner, far_sum}

-- ---- from the other side

sign_back : (m n : ℤ) → same_sign m n ≡ same_sign n m
unfolding same_sign
sign_back m n = rw (and_comm (below_zero m) (below_zero n), and_comm (above_zero m) (above_zero n))

module _ (bytes : List ℕ) {ids : ℕ} (paired : Paired (table_in bytes) ids) (r c : ℕ) (l : r < rows_in bytes) (m : c < 4) where
  abbrev t : Table
  t = table_in bytes

  -- the row across, and the corner that it leaves out of the triangle
  abbrev s : ℕ
  s = across t r c

  e : ℕ
  e = (shared_face bytes paired r c l m).0

  e_below : e < 4
  unfolding e
  e_below = (shared_face bytes paired r c l m).1

  same : face_of t r c ≡ face_of t s e
  unfolding e
  same = (shared_face bytes paired r c l m).2

  below : s < rows_in bytes
  below = across_below paired r c l m

  differs : r ≢ s
  differs z = let o = across_is paired r c l m in o.differs (sym (across_other t r c o) ∙ sym z)

  held : Side t s e r
  unfolding face_of
  held k lk ne =
      let at : (j : ℕ) → j < 3 → t.id r (corner_of c j) ≡ t.id s (corner_of e j) → k ≡ corner_of e j → Holds t r (t.id s k) = (λ j lj q z.
      (corner_of c j, corner_below c j (omega arith) lj, q ∙ ap (t.id s) (sym z))) in
      ⊎_elim (λ z. absurd (ne z)) (⊎_elim (at 0 (lit< tt) (ap (λ (f : Face). f.a) same))
      (⊎_elim (at 1 (lit< tt) (ap (λ (f : Face). f.b) same)) (at 2 (lit< tt) (ap (λ (f : Face). f.c) same)))) (each_corner e k e_below lk)

  back : across t s e ≡ r
  back = let o = across_is paired s e below e_below in across_other t s e o ∙ sym (o.only r l held differs)

  far_back : far_id t s e ≡ t.id r c
  far_back =
      omega (arith, far_sum bytes paired s e below e_below, ap (id_sum t) back, row_sum t r c m, row_sum t s e e_below, ap face_sum same)

  triangle_back : triangle t s e ≡ triangle t r c
  triangle_back = triangle_face bytes s e e_below same ∙ sym (triangle_face bytes r c m refl)

  module _ (at : ℕ → Point) where
    -- whether they are on the same side is the same from either
    same_side_back : same_side t at r c ≡ same_side t at s e
    unfolding same_side e
    same_side_back =
        rw (back, far_back, triangle_back, far_corner bytes paired r c l m, and_comm (not (outer t s)) (not (outer t r)))
        (ap (λ (b : Bool). not (outer t r) && not (outer t s) && b) (sign_back (side_of at (triangle t r c) (t.id r c)) (side_of at (triangle t r c) (t.id s e))))

    lower_asks : lowest r (folded t at) ≡ none → same_side t at r c ≡ true → r < s
    unfolding folded
    lower_asks clear p =
        ⊎_elim (λ (higher : r < s). higher) (λ (lower : s < r).
        absurd (not_both (any_here 4 (same_side t at s) e e_below (sym same_side_back ∙ p)) (lowest_none r (folded t at) clear s lower))) (lower_or_higher r s differs)

-- ---- the lower row asks

module _ (t : Table) (at : ℕ → Point) (r : ℕ) where
  -- finite neighbours, the one across the higher, on the same side of their triangle
  unfoldable pub side_above : ℕ → Bool
  side_above c = ltb r (across t r c) && same_side t at r c

  unfoldable pub folded_above : Bool
  folded_above = any t.corners side_above

folded_of : (t : Table) (at : ℕ → Point) (r : ℕ) → folded_above t at r ≡ true → folded t at r ≡ true
unfolding folded folded_above side_above
folded_of t at r q =
    let (c, m, p) = any_some t.corners (side_above t at r) q in
    any_here t.corners (same_side t at r) c m (and_second (ltb r (across t r c)) (same_side t at r c) p)

-- where no lower row is folded, that is all there is to ask
pub folded_asked : (bytes : List ℕ) {ids : ℕ} → Paired (table_in bytes) ids → (at : ℕ → Point) (r : ℕ) → r < rows_in bytes → lowest r (folded (table_in bytes) at) ≡ none
    → folded_above (table_in bytes) at r ≡ folded (table_in bytes) at r
unfolding folded folded_above side_above
folded_asked bytes paired at r l clear =
    same_test (folded_above t at r) (folded t at r)
    (λ q. let (c, m, p) = any_some 4 (side_above t at r) q in any_here 4 (same_side t at r) c m (and_second (ltb r (across t r c)) (same_side t at r c) p))
    (λ q. let (c, m, p) = any_some 4 (same_side t at r) q in any_here 4 (side_above t at r) c m (and_both (lt-ltb r (across t r c) (lower_asks bytes paired r c l m at clear p)) p))
  where
    t : Table
    t = table_in bytes

module _ (bytes : List ℕ) {ids : ℕ} (paired : Paired (table_in bytes) ids) (at : ℕ → Point) where
  asks : ℕ → Bool
  asks = folded_above (table_in bytes) at

  fold : ℕ → Bool
  fold = folded (table_in bytes) at

  asks_lowest : (n k : ℕ) → n ≤ rows_in bytes → Lowest n fold k → asks k ≡ true
  unfolding asks fold
  asks_lowest n k few low = folded_asked bytes paired at k (le_trans low.below few) (none_lowest k fold low.first) ∙ low.passes

  -- the first row that asks so is the first that is folded
  pub lowest_asked : lowest (rows_in bytes) (folded_above (table_in bytes) at) ≡ lowest (rows_in bytes) (folded (table_in bytes) at)
  unfolding asks fold
  lowest_asked =
      ⊎_elim (λ (k, low). is_lowest (rows_in bytes) asks k (record {
        below = low.below;
        passes = asks_lowest (rows_in bytes) k (le_refl _) low;
        first = λ j l. is_false (asks j) (λ q. not_both (folded_of (table_in bytes) at j q) (low.first j l));
      }) ∙ sym (is_lowest (rows_in bytes) fold k low))
      (λ off. none_lowest (rows_in bytes) asks (λ j l. is_false (asks j) (λ q. not_both (folded_of (table_in bytes) at j q) (off j l))) ∙ sym (none_lowest (rows_in bytes) fold off))
      (lowest_or_none (rows_in bytes) fold)

-- ---- as the code asks

pub outer_unfolded : (bytes : List ℕ) (at : ℕ → Point) (r : ℕ) → outer (table_in bytes) r ≡ true → folded_above (table_in bytes) at r ≡ false
unfolding folded_above side_above same_side
outer_unfolded bytes at r on = none_any 4 (side_above (table_in bytes) at r) (λ c m. rw on (and-false (ltb r (across (table_in bytes) r c))))

module _ {bytes neighbours : List ℕ} {ids : ℕ} (ground : Ground bytes neighbours ids) (at : ℕ → Point) (r c : ℕ) (l : r < rows_in bytes) (m : c < 4)
    {s : ℕ} (listed : s ≡ get_or neighbours (4 * r + c) 0) where
  is_across : s ≡ across (table_in bytes) r c
  is_across = listed ∙ ground.at r c l m

  pub higher_asks : s ≤ r → side_above (table_in bytes) at r c ≡ false
  unfolding side_above
  higher_asks le = rw (← is_across, le-ltb r s le)

  -- Outer rows come first, so a row above a finite one is finite.
  module _ (finite : outer (table_in bytes) r ≡ false) (above : r < s) where
    finite_above : outer (table_in bytes) s ≡ false
    finite_above =
        is_false (outer (table_in bytes) s) (λ q. not_both
        ((outer_reads (table_in bytes) r).1 (outer_first ground.paired s r (omega arith) (rw is_across (across_below ground.paired r c l m)) ((outer_reads (table_in bytes) s).0 q))) finite)

    pub above_asked : {f : Face} → f ≡ face_of (table_in bytes) r c → {d x : ℕ} → d ≡ id_in bytes r c → x ≡ far_id (table_in bytes) r c
        → same_sign (side_at at f d) (side_at at f x) ≡ side_above (table_in bytes) at r c
    unfolding side_above same_side
    above_asked ef {d} {x} ed ex =
        rw (side_face bytes at r c d m ef, side_face bytes at r c x m ef, ed, ex, ← is_across, lt-ltb r s above, finite, finite_above)
