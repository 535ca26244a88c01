-- An edge of a clean skin is passed once each way.
use Rattle.std.specs.Prelude.{◌≡◌, ◌⊎◌, Bool, List, ℕ, ◌<◌, length, get_or}
use Rattle.std.proofs.Math.Path.{refl, sym, ap}
use Rattle.std.proofs.Common.{◌∙◌, subst, subst₂, inl, inr}
use Rattle.std.proofs.Math.Logic.{⊎_elim, Ne-symm}
use Rattle.std.proofs.Math.Bool.{true, false, not, xor}
use Rattle.std.proofs.Math.Option.{some}
use borrow.Author.Tests.{not-true}
use Rattle.rules.specs.Below.{count}
use Rattle.rules.specs.Table.{Table, outer, across}
use Rattle.rules.specs.Skin.{on_skin, triangle, far_edge}
use Rattle.rules.specs.Proposals.{inside_in}
use Rattle.rules.specs.Points.{Point}
use Rattle.rules.specs.Outward.{far_id, flat, folded, exchanged, triangle_as}
use Rattle.rules.specs.Laws.Truth.{true_or_false, not_both, is_false, same_test}
use Rattle.rules.specs.Laws.Below.{Lowest, lowest_or_none}
use Rattle.rules.specs.Laws.Count.{ExactlyOne, count_same}
use Rattle.rules.specs.Reading.Rows.{one_corner}
use Rattle.rules.specs.Reading.Neighbours.{side_self}
use Rattle.rules.specs.Reading.Closed.{Paired, across_below}
use Rattle.rules.specs.Reading.Skin.{as_tested, Different, TriangleIds, triangle_of, skin_reads, skin_far, far_reads, skin_between, skin_between_sides, inside_reads}
use Rattle.rules.specs.Reading.Outer.{outer_reads, OuterAlike}
use Rattle.rules.specs.Reading.Outward.{listed_id, Passes, either_way, three_each}
use Rattle.outward.specs.Orders.{in_any_order}
use Rattle.outward.specs.Row.{ids_first_exchanged, ids_last_exchanged, FourIds, first_exchanged, below_corners, three_held, id_below, side_held, held_side, own_ids, own_is, far_ids}
use Rattle.outward.specs.EachWay.{Sided, up, up_is, one_each}
use Rattle.outward.specs.Signs.{solid_above, sign, sign₁, sign_rotated, solid_row}
use Rattle.outward.specs.Listed.{outward_list, outward_words, Stands, stands, stands_at, stands_once, number_listed, at_words}
use Rattle.outward.specs.Facing.{Facing, all_differ, across_outside}
use Rattle.outward.proofs.Signs.{opposed, is_sided}
use Rattle.outward.proofs.Facing.{facing_at}

-- ---- three ids from each of them on

data Turn (a b e : ℕ) : ℕ → ℕ → ℕ → Type 0 where
  from_first : Turn a b e a b e
  from_second : Turn a b e b e a
  from_third : Turn a b e e a b

-- from x to y
abbrev Goes : ℕ → ℕ → ℕ → ℕ → ℕ → Type 0
Goes a b e x y = ((a ≡ x) × (b ≡ y)) ⊎ (((b ≡ x) × (e ≡ y)) ⊎ ((e ≡ x) × (a ≡ y)))

turn_goes : {a b e x y w : ℕ} → Turn a b e x y w → Goes a b e x y
turn_goes from_first = inl (refl, refl)
turn_goes from_second = inr (inl (refl, refl))
turn_goes from_third = inr (inr (refl, refl))

goes_turn : {a b e x y : ℕ} → Goes a b e x y → (w : ℕ) × Turn a b e x y w
goes_turn {a} {b} {e} (inl (p, q)) = (e, subst₂ (λ (x y : ℕ). Turn a b e x y e) p q from_first)
goes_turn {a} {b} {e} (inr (inl (p, q))) = (a, subst₂ (λ (x y : ℕ). Turn a b e x y a) p q from_second)
goes_turn {a} {b} {e} (inr (inr (p, q))) = (b, subst₂ (λ (x y : ℕ). Turn a b e x y b) p q from_third)

turn_next : {a b e x y w : ℕ} → Turn a b e x y w → Turn a b e y w x
turn_next from_first = from_second
turn_next from_second = from_third
turn_next from_third = from_first

-- what stays from one id to the next stays
turn_keeps : (P : ℕ → ℕ → ℕ → Type 0) → ((a b e : ℕ) → P a b e → P b e a) → {a b e x y w : ℕ} → Turn a b e x y w → P a b e → P x y w
turn_keeps P next from_first p = p
turn_keeps P next from_second p = next _ _ _ p
turn_keeps P next from_third p = next _ _ _ (next _ _ _ p)

four_next : {t : Table} {s a b e v : ℕ} → FourIds t s a b e v → FourIds t s b e a v
four_next i =
    let (ab, ae, be) = i.three in
    let (_, av, bv) = i.other in
    let (ha, hb, he) = i.held in
    record { three = (be, Ne-symm ab, Ne-symm ae); other = (be, bv, i.apart); apart = av; held = (hb, he, ha); fourth = i.fourth }

not_opposite : (b : Bool) → b ≡ not b → ⊥
not_opposite true e = not_both refl e
not_opposite false e = not_both e refl

-- a triangle as it is listed goes from x to y, or from y to x
one_way_or_other : (t : Table) → t.corners ≡ 4 → (at : ℕ → Point) {r c x y w : ℕ} → c < 4 → TriangleIds t r c x y w → Different x y w
    → let ids = triangle_as t true (some at) r c in
    Turn (get_or ids 0 0) (get_or ids 1 0) (get_or ids 2 0) x y w ⊎ Turn (get_or ids 0 0) (get_or ids 1 0) (get_or ids 2 0) y x w
unfolding exchanged
one_way_or_other t four at {r} {c} lc i d =
    in_any_order Either (λ p q u. ⊎_elim inr inl) (λ p q u. ⊎_elim (λ k. inr (turn_next (turn_next k))) (λ k. inl (turn_next k))) t four lc i d
    (⊎_elim (λ e. inl (subst (λ (l : List ℕ). Turn (get_or l 0 0) (get_or l 1 0) (get_or l 2 0) (get_or tri 0 0) (get_or tri 1 0) (get_or tri 2 0)) (sym e) from_first))
    (λ e. inr (subst (λ (l : List ℕ). Turn (get_or l 0 0) (get_or l 1 0) (get_or l 2 0) (get_or tri 1 0) (get_or tri 0 0) (get_or tri 2 0)) (sym e) from_third)) (either_way t true (some at) r c))
  where
    ids : List ℕ
    ids = triangle_as t true (some at) r c

    tri : List ℕ
    tri = triangle t r c

    Either : ℕ → ℕ → ℕ → Type 0
    Either p q u = Turn (get_or ids 0 0) (get_or ids 1 0) (get_or ids 2 0) p q u ⊎ Turn (get_or ids 0 0) (get_or ids 1 0) (get_or ids 2 0) q p u

module _ (t : Table) (four : t.corners ≡ 4) {id_count : ℕ} (paired : Paired t id_count) (at : ℕ → Point) (solid : (r : ℕ) → r < t.rows → flat t at r ≡ false)
    (apart : (r : ℕ) → r < t.rows → folded t at r ≡ false) (marks : List ℕ) (alike : OuterAlike t marks) (rest : List ℕ) where
  abbrev inside : ℕ → Bool
  inside = inside_in marks

  abbrev words : List ℕ
  words = outward_words t at marks rest

  -- two places of the list with the same ids are one
  same_place : {k k' r c r' c' x y w : ℕ} → Stands t inside k r c → Stands t inside k' r' c' → Different x y w → TriangleIds t r c x y w → TriangleIds t r' c' x y w → k ≡ k'
  same_place {k} {k'} {r} {c} {r'} {c'} {x} {y} {w} s s' d i i' = stands_once t inside s (subst₂ (Stands t inside k') (sym row) (sym corner) s')
    where
      -- one inside row holds a skin triangle
      row : r ≡ r'
      row =
          let one = (skin_reads t inside (as_tested inside) r c).0 s.on_skin_lem in
          one.only r s.row_below (s.row_inside, side_self t r c) ∙ sym (one.only r' s'.row_below (s'.row_inside, held_side t four s.corner_below i d (three_held t four i')))

      -- and it has one fourth id there
      corner : c ≡ c'
      corner =
          let own = own_ids t four paired s.row_below s'.corner_below (subst (λ (z : ℕ). TriangleIds t z c' x y w) (sym row) i') d in
          one_corner t (paired.rising r s.row_below) c c' (below_corners t four s.corner_below) (below_corners t four s'.corner_below)
          (sym (own_is t four paired s.row_below s.corner_below i d own))

  -- ---- by the rows of a side that no outer row is of; `front` is the sign that their fourth corners have at a listed triangle
  module _ (on : ℕ → Bool) (finite : (s : ℕ) → s < t.rows → on s ≡ true → outer t s ≡ false) (front : Bool) where
    sided : Sided t four paired on (sign at)
    sided = is_sided t four paired at solid apart on finite

    -- the row of this side at the triangle a, b, e, and its fourth id
    record Seen (a b e : ℕ) : Type 0 where
      row : ℕ
      fourth : ℕ
      row_below : row < t.rows
      row_on : on row ≡ true
      ids : FourIds t row a b e fourth
      signed : sign at a b e fourth ≡ front

    seen_next : (a b e : ℕ) → Seen a b e → Seen b e a
    seen_next a b e s = record {
      row = s.row;
      fourth = s.fourth;
      row_below = s.row_below;
      row_on = s.row_on;
      ids = four_next s.ids;
      signed = sign_rotated at a b e s.fourth ∙ s.signed;
    }

    module _ (far_same : (x y w : ℕ) → far_edge t on x y w ≡ far_edge t inside x y w)
        (seen : (k r c a b e : ℕ) → Stands t inside k r c → Facing t at r c a b e → Seen a b e) (x y : ℕ) (two : count id_count (far_edge t inside x y) ≡ 2) where
      -- one third id is left, or entered, as `front` says
      third : ExactlyOne id_count (λ w. (far_edge t on x y w ≡ true) × (up t four paired on (sign at) sided x y w ≡ front))
      third = one_each t four paired on (sign at) sided x y (count_same id_count (far_edge t on x y) (far_edge t inside x y) (λ w _. far_same x y w) ∙ two) front

      -- it is that of each listed triangle that goes from x to y
      is_third : {k r c w : ℕ} → Stands t inside k r c → TriangleIds t r c x y w → Seen x y w → w ≡ third.one
      is_third {k} {r} {c} {w} s i z =
          let far = far_same x y w ∙ sym (skin_far t four inside i z.ids.three s.corner_below) ∙ s.on_skin_lem in
          third.only w (id_below t four paired s.row_below (three_held t four i).2) (far, up_is t four paired on (sign at) sided x y z.row_below z.row_on z.ids far ∙ z.signed)

      seen_listed : {k r c : ℕ} → Stands t inside k r c → Seen (listed_id words k 0) (listed_id words k 1) (listed_id words k 2)
      seen_listed {k} {r} {c} s = seen k r c _ _ _ s (facing_at t four paired at solid marks alike rest s)

      -- a listed triangle with this third id goes from x to y: the other way the sign would be the opposite
      right_turn : {k r c : ℕ} → Stands t inside k r c → let Listed = Turn (listed_id words k 0) (listed_id words k 1) (listed_id words k 2) in
          Listed x y third.one ⊎ Listed y x third.one → Listed x y third.one
      right_turn s (inl turn) = turn
      right_turn s (inr turn) =
          let z = turn_keeps Seen seen_next turn (seen_listed s) in
          let up_is_sign = up_is t four paired on (sign at) sided x y z.row_below z.row_on (first_exchanged z.ids) third.is.0 in
          let whole = solid_row t four paired at solid z.row_below (finite z.row z.row_below z.row_on) z.ids in
          absurd (not_opposite front (sym third.is.1 ∙ up_is_sign ∙ sign₁ at y x third.one z.fourth whole ∙ ap not z.signed))

      -- triangle k goes from x to y by this third id
      record Passing (k : ℕ) : Type 0 where
        row : ℕ
        corner : ℕ
        stands_there : Stands t inside k row corner
        ids : TriangleIds t row corner x y third.one
        goes : Passes words x y k

      found : (k : ℕ) × Passing k
      found =
          let w = third.one in
          let far = sym (far_same x y w) ∙ third.is.0 in
          let sk = (far_reads t four inside (as_tested inside) x y w).0 far in
          let between = (skin_between_sides t inside (as_tested inside) paired sk.row sk.corner sk.row_below (below_corners t four sk.corner_below)).0 in
          let b = between ((skin_reads t inside (as_tested inside) sk.row sk.corner).1 sk.on_skin_lem) in
          let (hx, hy, hw) = side_held t four sk.corner_below sk.ids sk.different b.in_holds in
          let (c, lc, i) = triangle_of t four b.in_row x y w sk.different hx hy hw in
          let (k, s) = stands_at t inside b.in_below lc b.is_inside (skin_far t four inside i sk.different lc ∙ far) in
          let listed = at_words t four inside (triangle_as t true (some at)) (three_each t true (some at) four) rest s (λ a b e. Turn a b e x y w ⊎ Turn a b e y x w) in (
            k,
            record {
              row = b.in_row;
              corner = c;
              stands_there = s;
              ids = i;
              goes = turn_goes (right_turn s (listed (one_way_or_other t four at lc i sk.different)));
            },
          )

      only : (k : ℕ) → k < length (outward_list t at marks) → Passes words x y k → k ≡ found.0
      only k l g =
          let (w, turn) = goes_turn g in
          let (r, c, s) = stands t inside k (rw (number_listed t four inside (triangle_as t true (some at))) at l) in
          let i = turn_keeps (TriangleIds t r c) (λ a b e i. ids_last_exchanged (ids_first_exchanged i)) turn (facing_at t four paired at solid marks alike rest s).ids in
          let z = turn_keeps Seen seen_next turn (seen_listed s) in
          same_place s found.1.stands_there z.ids.three i (subst (TriangleIds t found.1.row found.1.corner x y) (sym (is_third s i z)) found.1.ids)

      passed_once : ExactlyOne (length (outward_list t at marks)) (Passes words x y)
      passed_once = record {
        one = found.0;
        below = rw (number_listed t four inside (triangle_as t true (some at))) found.1.stands_there.number_below;
        is = found.1.goes;
        only = only;
      }

  -- ---- the two sides

  abbrev outside : ℕ → Bool
  outside s = not (inside s)

  -- a triangle is in exactly one outside row where it is in exactly one inside row
  far_other : (x y w : ℕ) → far_edge t outside x y w ≡ far_edge t inside x y w
  unfolding xor
  far_other x y w =
      same_test (far_edge t outside x y w) (far_edge t inside x y w) (carried outside inside skin_other) (carried inside outside (λ r c l lc. sym (skin_other r c l lc)))
    where
      both_turned : (a b : Bool) → xor (not a) (not b) ≡ xor a b
      both_turned true true = refl
      both_turned true false = refl
      both_turned false true = refl
      both_turned false false = refl

      skin_other : (r c : ℕ) → r < t.rows → c < 4 → on_skin t outside r c ≡ on_skin t inside r c
      skin_other r c l lc =
          let m = below_corners t four lc in
          skin_between t outside paired r c l m ∙ both_turned (inside r) (inside (across t r c)) ∙ sym (skin_between t inside paired r c l m)

      carried : (in₁ in₂ : ℕ → Bool) → ((r c : ℕ) → r < t.rows → c < 4 → on_skin t in₁ r c ≡ on_skin t in₂ r c) → far_edge t in₁ x y w ≡ true → far_edge t in₂ x y w ≡ true
      carried in₁ in₂ same e =
          let sk = (far_reads t four in₁ (as_tested in₁) x y w).0 e in
          sym (skin_far t four in₂ sk.ids sk.different sk.corner_below) ∙ sym (same sk.row sk.corner sk.row_below sk.corner_below)
          ∙ (skin_reads t in₁ (as_tested in₁) sk.row sk.corner).1 sk.on_skin_lem

  -- where all inside rows are finite, their fourth corners lie behind
  once_by_inside : ((s : ℕ) → s < t.rows → inside s ≡ true → outer t s ≡ false)
      → (x y : ℕ) → count id_count (far_edge t inside x y) ≡ 2 → ExactlyOne (length (outward_list t at marks)) (Passes words x y)
  unfolding sign
  once_by_inside finite = passed_once inside finite true (λ x y w. refl) (λ k r c a b e s f. record {
    row = r;
    fourth = t.id r c;
    row_below = s.row_below;
    row_on = s.row_inside;
    ids = own_ids t four paired s.row_below s.corner_below f.ids (all_differ f);
    signed = f.behind (finite r s.row_below s.row_inside);
  })

  -- where all outside rows are, theirs lie in front
  once_by_outside : ((s : ℕ) → s < t.rows → outside s ≡ true → outer t s ≡ false)
      → (x y : ℕ) → count id_count (far_edge t inside x y) ≡ 2 → ExactlyOne (length (outward_list t at marks)) (Passes words x y)
  unfolding sign
  once_by_outside finite = passed_once outside finite false far_other (λ k r c a b e s f.
      let l = s.row_below in
      let lc = s.corner_below in
      let l' = across_below paired r c l (below_corners t four lc) in
      let out = ap not (across_outside t four paired at solid marks alike l lc s.row_inside s.on_skin_lem) in
      let fin' = finite (across t r c) l' out in
      let far = far_ids t four paired l lc f.ids (all_differ f) in
      record {
        row = across t r c;
        fourth = far_id t r c;
        row_below = l';
        row_on = out;
        ids = far;
        signed = ⊎_elim (λ sky. not-true _ (sym (solid_above _ (solid_row t four paired at solid l' fin' far)) ∙ f.in_front sky))
            (λ fin. opposed t four paired at solid apart l lc fin fin' f.ids (all_differ f) ∙ ap not (f.behind fin)) (true_or_false (outer t r));
      })

  -- outer rows are alike, so one of the two is so
  pub once : (x y : ℕ) → count id_count (far_edge t inside x y) ≡ 2 → ExactlyOne (length (outward_list t at marks)) (Passes words x y)
  once = go (lowest_or_none t.rows (outer t))
    where
      same_marks : (r s : ℕ) → r < t.rows → s < t.rows → outer t r ≡ true → outer t s ≡ true → inside s ≡ inside r
      same_marks r s lr ls o p =
          let e = alike r s lr ls ((outer_reads t r).0 o) ((outer_reads t s).0 p) in
          same_test _ _ (λ i. (inside_reads marks r).1 (e ∙ (inside_reads marks s).0 i)) (λ i. (inside_reads marks s).1 (sym e ∙ (inside_reads marks r).0 i))

      go : ((s : ℕ) × Lowest t.rows (outer t) s) ⊎ ((s : ℕ) → s < t.rows → outer t s ≡ false)
          → (x y : ℕ) → count id_count (far_edge t inside x y) ≡ 2 → ExactlyOne (length (outward_list t at marks)) (Passes words x y)
      go (inr off) = once_by_inside (λ s l m. off s l)
      go (inl (r, low)) =
          ⊎_elim (λ m. once_by_outside (λ s l n. is_false _ (λ o. not_both (same_marks r s low.below l low.passes o ∙ m) (not-true (inside s) n))))
          (λ m. once_by_inside (λ s l n. is_false _ (λ o. not_both n (same_marks r s low.below l low.passes o ∙ m)))) (true_or_false (inside r))
