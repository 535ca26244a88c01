-- The rows about an edge: each has two others across its triangles that hold the edge, so a walk from row to row about it ends.
use Rattle.std.specs.Prelude.{◌≡◌, ◌↔◌, ◌≢◌, Bool, not, ◌&&◌, eqb}
use Rattle.std.proofs.Math.Path.{refl}
use Rattle.std.proofs.Common.{sym, ap, ◌∙◌, subst, inl, inr, ⊎_elim}
use Rattle.std.proofs.Math.Logic.{Ne-symm}
use Rattle.std.proofs.Math.Bool.{true, false, cond}
use Rattle.std.specs.Bool.{beq}
use Prim.Native.Nat.{ℕ, ◌+◌, ◌≤◌, ◌<◌}
use Rattle.rules.specs.Table.{Table, across}
use Rattle.rules.specs.Laws.Truth.{and_reads, not_reads, eqb_reads, same_or_not}
use Rattle.rules.specs.Laws.Count.{ExactlyTwo, TheOther, the_other}
use Rattle.rules.specs.Laws.Highest.{highest, highest_more, highest_passes}
use Rattle.rules.specs.Laws.Shape.{two_others}
use Rattle.rules.specs.Laws.Joined.{stay, chain_ends, chain_map}
use Rattle.rules.specs.Reading.Rows.{one_corner, Holds}
use Rattle.rules.specs.Reading.Neighbours.{Side, Neighbours, neighbours_read, neighbours_back}
use Rattle.rules.specs.Reading.Closed.{Paired, Closed, across_is, across_other, edge_rule}
use Rattle.rules.specs.Reading.Moves.{At, Move, leaves, move_good, step_is_move, both_reads, leaves_reads}
use Rattle.rules.specs.Reading.Apart.{one_row}
use Rattle.round.specs.Trail.{begins, goes, Going, Stopped, Behind, stopped_once, next_of, walk_behind, walk_few, walk_whole}

-- row x holds a and b, and y is across a triangle of x that does
abbrev pub Near : Table → ℕ → ℕ → ℕ → ℕ → Type 0
Near t a b x y = At t a b x × Move t a b x y

-- corner c of row x leads on, not back to `from`
unfoldable pub leads : Table → ℕ → ℕ → ℕ → ℕ → ℕ → Bool
leads t a b from x c = leaves t a b x c && not (eqb (across t x c) from)

-- the corner that leads on
abbrev pub way_on : Table → ℕ → ℕ → ℕ → ℕ → ℕ
way_on t a b from x = highest 4 (leads t a b from x)

-- of the first k corners the one that leads on, by the row across it and its id
pub record Sought (t : Table) (a b from x k row id : ℕ) : Type 0 where
  pub row_is : row ≡ across t x (highest k (leads t a b from x))
  pub id_is : id ≡ t.id x (highest k (leads t a b from x))

-- The walk about the edge went from `first` to `second` and k steps on to `at`, by rows of the second's side, and y is the next row.
abbrev pub Turning : Table → (ℕ → Bool) → ℕ → ℕ → ℕ → ℕ → ℕ → ℕ → ℕ → Type 0
Turning t inside a b first second k at y = Going (Near t a b) (λ z. inside z ≡ inside second) first second k at y

-- It stops where the next row is the first or is of the other side.
abbrev pub Turned : Table → (ℕ → Bool) → ℕ → ℕ → ℕ → ℕ → ℕ → ℕ → Type 0
Turned t inside a b first second at y = Stopped (Near t a b) (λ z. inside z ≡ inside second) first second at y

-- so it has one possible stop
pub turned_once : (t : Table) (inside : ℕ → Bool) (a b first second : ℕ) {at y at' y' : ℕ} → Turned t inside a b first second at y
    → Turned t inside a b first second at' y' → (at ≡ at') × (y ≡ y')
turned_once t inside a b first second s s' = stopped_once s s'

pub leads_reads : (t : Table) (a b from x c : ℕ) → (leads t a b from x c ≡ true) ↔ ((leaves t a b x c ≡ true) × (across t x c ≢ from))
unfolding leads
leads_reads t a b from x c = and_reads (λ e. e, λ e. e) (not_reads (eqb_reads (across t x c) from))

-- ---- the walk's test, whether it goes on

same_side_lem : (p q : Bool) → (beq p q ≡ true) ↔ (p ≡ q)
same_side_lem true true = (λ _. refl, λ _. refl)
same_side_lem true false = (λ e. sym e, λ e. sym e)
same_side_lem false true = (λ e. e, λ e. e)
same_side_lem false false = (λ _. refl, λ _. refl)

module _ {y first : ℕ} {p q i j : Bool} (ep : p ≡ i) (eq : q ≡ j) where
  test : ((not (eqb y first) && beq p q) ≡ true) ↔ ((y ≢ first) × (i ≡ j))
  test = rw (ep, eq) (and_reads (not_reads (eqb_reads y first)) (same_side_lem i j))

  pub test_goes : (not (eqb y first) && beq p q) ≡ true → (y ≢ first) × (i ≡ j)
  test_goes = test.0

-- ---- the search for the corner that leads on

module _ {t : Table} {a b from x : ℕ} where
  pub sought_none : {row id : ℕ} → row ≡ across t x 0 → id ≡ t.id x 0 → Sought t a b from x 0 row id
  unfolding highest
  sought_none er ei = record { row_is = er; id_is = ei }

  pub sought_more : {k row id : ℕ} → Sought t a b from x k row id → {left over : ℕ} → left ≡ t.id x k → over ≡ across t x k → {row' id' : ℕ}
      → row' ≡ cond (not (eqb left a) && not (eqb left b) && not (eqb over from)) over row → id' ≡ cond (not (eqb left a) && not (eqb left b) && not (eqb over from)) left id
      → Sought t a b from x (k + 1) row' id'
  unfolding leads leaves
  sought_more {k} s el eo er ei = record {
    row_is = er ∙ rw (el, eo, s.row_is, highest_more k (leads t a b from x)) (chosen (across t x) (leads t a b from x k) k (highest k (leads t a b from x)));
    id_is = ei ∙ rw (el, eo, s.id_is, highest_more k (leads t a b from x)) (chosen (t.id x) (leads t a b from x k) k (highest k (leads t a b from x)));
  }
    where
      chosen : (of : ℕ → ℕ) (on : Bool) (c d : ℕ) → cond on (of c) (of d) ≡ of (cond on c d)
      chosen of true c d = refl
      chosen of false c d = refl

module _ {t : Table} {id_count : ℕ} (paired : Paired t id_count) (four : t.corners ≡ 4) {a b : ℕ} (edge : a ≢ b) where
  pub near_at : (x y : ℕ) → Near t a b x y → At t a b y
  near_at x y (at, (c, m, w, e)) = subst (At t a b) e (chain_ends (move_good paired four a b x x c at.0 m (stay at refl) w))

  pub neighbours_near : (x y : ℕ) → At t a b x → At t a b y → Neighbours t x y → Near t a b x y
  neighbours_near x y at at' n = (at, step_is_move paired four a b x y at at' ((neighbours_read t x y).1 n))

  -- the row across is another, and holds the triangle
  pub near_side : (x y : ℕ) (n : Near t a b x y) → (y ≢ x) × Side t x n.1.0 y
  near_side x y (at, (c, m, w, e)) =
      let o = across_is paired x c at.0 (rw four m) in
      let same : o.other ≡ y = sym (across_other t x c o) ∙ e in
      (subst (λ u. u ≢ x) same o.differs, subst (Side t x c) same o.is)

  near_apart : (x y : ℕ) → Near t a b x y → x ≢ y
  near_apart x y n = Ne-symm (near_side x y n).0

  pub near_below : (x y : ℕ) → Near t a b x y → y < t.rows
  near_below x y n = (near_at x y n).0

  pub near_back : (x y : ℕ) → Near t a b x y → Near t a b y x
  near_back x y (at, (c, m, w, e)) =
      let at' = near_at x y (at, (c, m, w, e)) in
      let (ne, on) = near_side x y (at, (c, m, w, e)) in
      neighbours_near y x at' at (neighbours_back t x y (paired.rising x at.0) (paired.rising y at'.0) (Ne-symm ne, (c, rw four m, on)))

  -- the rows across the two triangles of a row that hold the edge
  near_two : (x : ℕ) → At t a b x → ExactlyTwo t.rows (Near t a b x)
  near_two x (l, held) =
      let ((i, li, p), (j, lj, q)) = (both_reads t a b x).0 held in
      let mi = subst (λ n. i < n) four li in
      let mj = subst (λ n. j < n) four lj in
      corners i j mi mj p q (two_others i j mi mj (λ (e : i ≡ j). edge (sym p ∙ ap (t.id x) e ∙ q)))
    where
      same : (i j : ℕ) → i < 4 → j < 4 → t.id x i ≡ t.id x j → i ≡ j
      same i j li lj e = one_corner t (paired.rising x l) i j (rw four li) (rw four lj) e

      corners : (i j : ℕ) → i < 4 → j < 4 → t.id x i ≡ a → t.id x j ≡ b → ExactlyTwo 4 (λ m. (m ≢ i) × (m ≢ j)) → ExactlyTwo t.rows (Near t a b x)
      corners i j li lj p q two = record {
        one = one;
        two = other;
        one_below = near_below x one first;
        two_below = near_below x other second;
        one_is = first;
        two_is = second;
        differ = λ (e : one ≡ other). near_apart x one first (one_row paired four x one l (near_below x one first) (all_held e));
        only = λ y _ (_, (c, m, w, e)).
            let (na, nb) = (leaves_reads t a b x c).0 w in
            ⊎_elim (λ (u : c ≡ two.one). inl (sym e ∙ ap (across t x) u)) (λ (u : c ≡ two.two). inr (sym e ∙ ap (across t x) u))
            (two.only c m (λ (u : c ≡ i). na (ap (t.id x) u ∙ p), λ (u : c ≡ j). nb (ap (t.id x) u ∙ q)));
      }
        where
          one : ℕ
          one = across t x two.one

          other : ℕ
          other = across t x two.two

          way : (c : ℕ) → c < 4 → (c ≢ i) × (c ≢ j) → Near t a b x (across t x c)
          way c m (ni, nj) =
              let leads_out = (leaves_reads t a b x c).1 (λ (e : t.id x c ≡ a). ni (same c i m li (e ∙ sym p)), λ (e : t.id x c ≡ b). nj (same c j m lj (e ∙ sym q))) in
              ((l, held), (c, m, leads_out, refl))

          first : Near t a b x one
          first = way two.one two.one_below two.one_is

          second : Near t a b x other
          second = way two.two two.two_below two.two_is

          -- one row across both triangles would hold all ids of x
          all_held : one ≡ other → (k : ℕ) → k < 4 → Holds t one (t.id x k)
          all_held e k m =
              ⊎_elim (λ (u : k ≡ two.one). subst (λ y. Holds t y (t.id x k)) (sym e) ((near_side x other second).1 k (rw four m) (λ (v : k ≡ two.two). two.differ (sym u ∙ v))))
              (λ ne. (near_side x one first).1 k (rw four m) ne) (same_or_not k two.one)

  module _ {from x : ℕ} (near : Near t a b x from) where
    back : TheOther t.rows (Near t a b x) from
    back = the_other (near_two x near.0) from (near_below x from near) near

    -- a corner leads on
    pub way_leads : (way_on t a b from x < 4) × (leads t a b from x (way_on t a b from x) ≡ true)
    way_leads =
        let (_, (j, m, w, e)) = back.is in
        highest_passes 4 (leads t a b from x) j m ((leads_reads t a b from x j).1 (w, λ (q : across t x j ≡ from). back.differs (sym e ∙ q)))

    pub way_near : Near t a b x (across t x (way_on t a b from x)) × (across t x (way_on t a b from x) ≢ from)
    way_near = let (l, on) = way_leads in let (way, ne) = (leads_reads t a b from x (way_on t a b from x)).0 on in ((near.0, (way_on t a b from x, l, way, refl)), ne)

  -- ---- a walk about the edge through rows of one side

  module _ (inside : ℕ → Bool) {first second : ℕ} (start : Near t a b second first) where
    pub turn_begins : {y : ℕ} → y ≡ across t second (way_on t a b first second) → Turning t inside a b first second 0 second y
    turn_begins e =
        let (n, ne) = way_near start in
        record { from = first; walk = begins refl refl refl; next = rw e (next_of near_back near_apart near_below (near_two second start.0) start n ne) }

    module _ {k at y : ℕ} (w : Turning t inside a b first second k at y) where
      pub turn_behind : Behind t.rows (Near t a b) (λ z. inside z ≡ inside second) first second w.from at k
      turn_behind = walk_behind near_back near_apart near_below (near_back second first start) refl w.walk

      pub turn_few : k + 2 ≤ t.rows
      turn_few = walk_few near_back near_apart near_below (near_back second first start) refl w.walk

      pub turn_next : Near t a b y at
      turn_next = near_back at y w.next.near

      pub turn_more : y ≢ first → inside y ≡ inside second → {y' k' : ℕ} → y' ≡ across t y (way_on t a b at y) → k' ≡ k + 1 → Turning t inside a b first second k' y y'
      turn_more nf side e more =
          let (n, ne) = way_near turn_next in
          record { from = at; walk = goes w.walk w.next nf side more; next = rw e (next_of near_back near_apart near_below (near_two y n.0) turn_next n ne) }

    -- where its first row is next, by the edge rule each row that holds the edge is of the second's side, but perhaps the first
    pub turn_whole : Closed t id_count → {k at : ℕ} → Turning t inside a b first second k at first → (z : ℕ) → At t a b z → z ≢ first → inside z ≡ inside second
    turn_whole closed {at = at} w z (lz, hz) =
        let (lx, hx) = w.next.near.0 in
        walk_whole near_back near_apart near_below (near_back second first start) refl {Member = At t a b} w (near_two first (near_at second first start))
        (chain_map (λ u (l, h). (l, (both_reads t a b u).1 h))
        (λ u v (lu, hu) (lv, hv) n. neighbours_near u v (lu, (both_reads t a b u).1 hu) (lv, (both_reads t a b v).1 hv) n)
        (edge_rule closed four a b edge at z (lx, (both_reads t a b at).0 hx) (lz, (both_reads t a b z).0 hz)))
