-- The five cases and the answers: when each applies. That each answer is given exactly if it applies and none before it does is proved in
-- `proofs.Reading.Answers`.
use Rattle.std.specs.Prelude.{◌≡◌, refl, ◌⊎◌, ◌↔◌, ◌≢◌, true, false, ◌&&◌, List, [], ◌∷◌}
use Rattle.std.proofs.Math.Path.{sym, ap}
use Rattle.std.proofs.Common.{◌∙◌, inr, arith}
use Rattle.std.proofs.Math.Logic.Iff
use Rattle.std.proofs.Math.Logic.{inl, ⊎_elim, Ne-symm}
use Rattle.std.proofs.Math.Bool.{Bool, not}
use mathlib.Core.List.Memᴰ
use Prim.Native.Nat.{ℕ, zero, suc, ◌≤◌, ◌<◌}
use borrow.Author.Tests.{eq-eqb, ne_eqb, not-true, not-false}
use Rattle.rules.specs.Below.{any, all, pick}
use Rattle.rules.specs.Table.{Table, holds_face}
use Rattle.rules.specs.Skin.{on_skin}
use Rattle.rules.specs.Cases.{other_side, free, triangles_on_skin, passes}
use Rattle.rules.specs.Proposals.{Proposal, inside_in, adds}
use Rattle.rules.specs.Laws.Truth.{not_both, is_false, and_first, and_second, and_both, lower_or_higher}
use Rattle.rules.specs.Laws.Below.{any_here, any_some, all_fails, fails_all}
use Rattle.rules.specs.Laws.Count.{count_zero, ExactlyOne, one_map, ExactlyTwo, two_map, count_one, count_two}
use Rattle.rules.specs.Laws.Lists.{in_pick, pick_in, Exactly, exactly_map, count_exactly}
use Rattle.rules.specs.Laws.Shape.{InTriangle, in_neither}
use Rattle.rules.specs.Reading.Rows.{Holds}
use Rattle.rules.specs.Reading.Closed.{HoldsFace, holds_face_reads}
use Rattle.rules.specs.Reading.Skin.{Inside, inside_reads, OnSkin, skin_reads}

-- ---- the five cases

-- row s holds the edge of row r with corners i and j
abbrev pub HoldsEdge : Table → ℕ → ℕ → ℕ → ℕ → Type 0
HoldsEdge t r i j s = Holds t s (t.id r i) × Holds t s (t.id r j)

-- `Other s`: row s is on the other side
module _ (t : Table) (Other : ℕ → Type 0) where
  -- some row of the other side
  abbrev pub SomeOther : (ℕ → Type 0) → Type 0
  SomeOther P = (s : ℕ) × (s < t.rows) × Other s × P s

  -- it holds the one edge of row r that is in neither of the triangles that leave out c and d
  abbrev pub HoldsNeither : ℕ → ℕ → ℕ → Type 0
  HoldsNeither r c d =
      (i : ℕ) × (j : ℕ) × (i < j) × (j < t.corners) × (InTriangle c i j → ⊥) × (InTriangle d i j → ⊥) × SomeOther (HoldsEdge t r i j)

-- f of the triangles of row r are on the skin
abbrev pub TrianglesOnSkin : Table → (ℕ → Type 0) → ℕ → ℕ → Type 0
TrianglesOnSkin t In r f = Exactly t.corners (OnSkin t In r) f

pub triangles_read : (t : Table) (marks : List ℕ) (r f : ℕ) → (triangles_on_skin t (inside_in marks) r ≡ f) ↔ TrianglesOnSkin t (Inside marks) r f
unfolding triangles_on_skin
triangles_read t marks r f =
    let skin = skin_reads t (inside_in marks) (inside_reads marks) r in
    let (forth, back) = count_exactly t.corners (on_skin t (inside_in marks) r) f in
    (λ e. exactly_map skin (forth e), λ x. back (exactly_map (λ c. Iff.symm (skin c)) x))

-- `Skin c`: the triangle of row r that leaves out corner c is on the skin
module _ (t : Table) (Skin Other : ℕ → Type 0) (r : ℕ) where
  -- f = 0: a row of the other side holds one of the vertices
  abbrev pub Refuses0 : Type 0
  Refuses0 = ((c : ℕ) → c < t.corners → Skin c → ⊥) × ((c : ℕ) × (c < t.corners) × SomeOther t Other (λ s. Holds t s (t.id r c)))

  -- f = 1: it holds the vertex opposite the skin triangle
  abbrev pub Refuses1 : Type 0
  Refuses1 = (x : ExactlyOne t.corners Skin) × SomeOther t Other (λ s. Holds t s (t.id r x.one))

  -- f = 2: it holds the one edge that is in neither skin triangle
  abbrev pub Refuses2 : Type 0
  Refuses2 = (x : ExactlyTwo t.corners Skin) × HoldsNeither t Other r x.one x.two

  -- the row has f triangles on the skin, and that case refuses it
  abbrev pub RefusesAt : ℕ → Type 0
  RefusesAt zero = Refuses0
  RefusesAt (suc zero) = Refuses1
  RefusesAt (suc (suc zero)) = Refuses2
  RefusesAt (suc (suc (suc f))) = ⊥

  -- one of the cases refuses it
  abbrev pub Refuses : Type 0
  Refuses = (f : ℕ) × RefusesAt f

  -- the edge that is in neither has the two left-out corners
  pub neither_holds : (x : ExactlyTwo t.corners Skin) → HoldsNeither t Other r x.one x.two ↔ SomeOther t Other (HoldsEdge t r x.one x.two)
  neither_holds x = (forth, back)
    where
      forth : HoldsNeither t Other r x.one x.two → SomeOther t Other (HoldsEdge t r x.one x.two)
      forth (i, j, l, m, p, q, (s, ls, o, (hi, hj))) =
          ⊎_elim (λ (e, f). (s, ls, o, (rw e at hi, rw f at hj))) (λ (e, f). (s, ls, o, (rw f at hj, rw e at hi)))
          ((in_neither x.one x.two i j x.differ (λ (e : i ≡ j). omega arith)).0 (p, q))

      back : SomeOther t Other (HoldsEdge t r x.one x.two) → HoldsNeither t Other r x.one x.two
      back (s, ls, o, (hc, hd)) =
          ⊎_elim
          (λ (l : x.one < x.two).
          let (p, q) = (in_neither x.one x.two x.one x.two x.differ x.differ).1 (inl (refl, refl)) in
          (x.one, x.two, l, x.two_below, p, q, (s, ls, o, (hc, hd))))
          (λ (l : x.two < x.one).
          let (p, q) = (in_neither x.one x.two x.two x.one x.differ (Ne-symm x.differ)).1 (inr (refl, refl)) in
          (x.two, x.one, l, x.one_below, p, q, (s, ls, o, (hd, hc))))
          (lower_or_higher x.one x.two x.differ)

-- the same skin triangles and the same other side
pub refuses_map : (t : Table) (r : ℕ) {S S' O O' : ℕ → Type 0} → ((c : ℕ) → S c ↔ S' c) → ((s : ℕ) → O s ↔ O' s) → (f : ℕ) → RefusesAt t S O r f → RefusesAt t S' O' r f
unfolding one_map two_map
refuses_map t r skin other zero (clear, (c, l, (s, ls, o, h))) = (λ c l x. clear c l ((skin c).1 x), (c, l, (s, ls, (other s).0 o, h)))
refuses_map t r skin other (suc zero) (x, (s, ls, o, h)) = (one_map (λ c. (skin c).0) (λ c. (skin c).1) x, (s, ls, (other s).0 o, h))
refuses_map t r skin other (suc (suc zero)) (x, (i, j, l, m, p, q, (s, ls, o, h))) =
    (two_map (λ c. (skin c).0) (λ c. (skin c).1) x, (i, j, l, m, p, q, (s, ls, (other s).0 o, h)))
refuses_map t r skin other (suc (suc (suc f))) x = absurd x

-- ---- the computed test says so

pub other_side_reads : (adding : Bool) (inside : ℕ → Bool) (s : ℕ) → (other_side adding inside s ≡ true) ↔ (inside s ≡ adding)
unfolding other_side
other_side_reads true inside s = (λ e. e, λ e. e)
other_side_reads false inside s = (λ e. not-true (inside s) e, λ e. ap not e)

pub not_is : (b : Bool) → (not b ≡ true) ↔ (b ≡ false)
not_is b = (not-true b, λ e. ap not e)

module _ (t : Table) (inside : ℕ → Bool) (adding : Bool) (r : ℕ) where
  abbrev Skin : ℕ → Type 0
  Skin c = on_skin t inside r c ≡ true

  abbrev Other : ℕ → Type 0
  Other s = inside s ≡ adding

  free_reads : (face : List ℕ) → (free t (other_side adding inside) r face ≡ false) ↔ SomeOther t Other (HoldsFace t r face)
  unfolding free
  free_reads face = (
    λ e.
        let (s, l, q) = any_some t.rows here (not-false (any t.rows here) e) in (
          s,
          l,
          (other_side_reads adding inside s).0 (and_first (other_side adding inside s) (holds_face t r face s) q),
          (holds_face_reads t r face s).0 (and_second (other_side adding inside s) (holds_face t r face s) q),
        ),
    λ (s, l, o, h). ap not (any_here t.rows here s l (and_both ((other_side_reads adding inside s).1 o) ((holds_face_reads t r face s).1 h))),
  )
    where
      here : ℕ → Bool
      here s = other_side adding inside s && holds_face t r face s

  -- ---- by f, the number of skin triangles

  abbrev f : ℕ
  f = triangles_on_skin t inside r

  -- the left-out corners of the skin triangles
  left_out : List ℕ
  left_out = pick t.corners (on_skin t inside r)

  holds_left_out : (s : ℕ) → HoldsFace t r left_out s ↔ ((c : ℕ) → c < t.corners → Skin c → Holds t s (t.id r c))
  unfolding left_out
  holds_left_out s = (
    λ h c l e. h c (in_pick t.corners (on_skin t inside r) c l e),
    λ h c m. let (l, e) = pick_in t.corners (on_skin t inside r) c m in h c l e,
  )

  pub case0 : f ≡ 0 → (passes t inside adding r ≡ false) ↔ Refuses0 t Skin Other r
  unfolding passes triangles_on_skin
  case0 z = (
    λ e.
        let (c, l, q) = all_fails t.corners (λ c. free t (other_side adding inside) r (c ∷ [])) (sym value ∙ e) in
        let (s, ls, o, h) = (free_reads (c ∷ [])).0 q in
        (λ c l q. not_both q (count_zero t.corners (on_skin t inside r) z c l), (c, l, (s, ls, o, h c (Memᴰ.head refl)))),
    λ (_, (c, l, (s, ls, o, h))).
        value ∙ fails_all t.corners (λ c. free t (other_side adding inside) r (c ∷ [])) c l
        ((free_reads (c ∷ [])).1 (s, ls, o, λ k m. let e : k ≡ c = Memᴰ.eq_of_singleton m in rw e h)),
  )
    where
      value : passes t inside adding r ≡ all t.corners (λ c. free t (other_side adding inside) r (c ∷ []))
      value = rw z

  pub case1 : f ≡ 1 → (passes t inside adding r ≡ false) ↔ Refuses1 t Skin Other r
  unfolding passes triangles_on_skin left_out
  case1 one = (
    λ e.
        let x = count_one t.corners (on_skin t inside r) one in
        let (s, l, o, h) = (free_reads left_out).0 (sym value ∙ e) in
        (x, (s, l, o, (holds_left_out s).0 h x.one x.below x.is)),
    λ (x, (s, l, o, h)). value ∙ (free_reads left_out).1 (s, l, o, (holds_left_out s).1 (λ c m q. rw (x.only c m q) h)),
  )
    where
      value : passes t inside adding r ≡ free t (other_side adding inside) r left_out
      value = rw one

  pub case2 : f ≡ 2 → (passes t inside adding r ≡ false) ↔ Refuses2 t Skin Other r
  unfolding passes triangles_on_skin left_out
  case2 two = (
    λ e.
        let x = count_two t.corners (on_skin t inside r) two in
        let (s, l, o, h) = (free_reads left_out).0 (sym value ∙ e) in
        (x, (neither_holds t Skin Other r x).1 (s, l, o, ((holds_left_out s).0 h x.one x.one_below x.one_is, (holds_left_out s).0 h x.two x.two_below x.two_is))),
    λ (x, held). let (s, l, o, (h, k)) = (neither_holds t Skin Other r x).0 held in
        value ∙ (free_reads left_out).1 (s, l, o, (holds_left_out s).1 (λ c m q. ⊎_elim (λ (e : c ≡ x.one). rw e h) (λ (e : c ≡ x.two). rw e k) (x.only c m q))),
  )
    where
      value : passes t inside adding r ≡ free t (other_side adding inside) r left_out
      value = rw two

-- ---- the answers

-- row s is on the other side: for an add, kind 1, it is inside; for a remove, kind 2, it is outside
abbrev pub OtherSide : ℕ → (ℕ → Type 0) → ℕ → Type 0
OtherSide kind In s = ((kind ≡ 1) × In s) ⊎ ((kind ≡ 2) × (In s → ⊥))

module _ (t : Table) (marks : List ℕ) (p : Proposal) where
  -- the row has f triangles on the skin, and that case refuses it
  abbrev pub CaseRefuses : ℕ → Type 0
  CaseRefuses f = RefusesAt t (OnSkin t (Inside marks) p.row) (OtherSide p.kind (Inside marks)) p.row f

  -- when each of the answers 1 to 7 applies. (The place of each is 0.)
  abbrev pub answer_conditions : List (ℕ → Type 0)
  answer_conditions =
      -- 1: row number not below N
      (λ place. (t.rows ≤ p.row) × (place ≡ 0))
      -- 2: kind not 1 or 2
      ∷ (λ place. ((p.kind ≢ 1) × (p.kind ≢ 2)) × (place ≡ 0))
      -- 3: outer row
      ∷ (λ place. Holds t p.row 0 × (place ≡ 0))
      -- 4: add of an inside row, remove of an outside row
      ∷ (λ place. OtherSide p.kind (Inside marks) p.row × (place ≡ 0))
      -- 5, 6, 7: the five cases refuse, at f = 0, 1, 2
      ∷ (λ place. CaseRefuses 0 × (place ≡ 0))
      ∷ (λ place. CaseRefuses 1 × (place ≡ 0))
      ∷ (λ place. CaseRefuses 2 × (place ≡ 0))
      ∷ []

  -- for a kind that is 1 or 2 the tests say so
  module _ (known : (p.kind ≡ 1) ⊎ (p.kind ≡ 2)) where
    pub other_reads : (s : ℕ) → (inside_in marks s ≡ adds p) ↔ OtherSide p.kind (Inside marks) s
    unfolding adds
    other_reads s = ⊎_elim adding removing known
      where
        adding : p.kind ≡ 1 → (inside_in marks s ≡ adds p) ↔ OtherSide p.kind (Inside marks) s
        adding k =
            let is = eq-eqb p.kind 1 k in
            (λ e. inl (k, (inside_reads marks s).0 (e ∙ is)), ⊎_elim (λ (_, i). (inside_reads marks s).1 i ∙ sym is) (λ (k', _). absurd (omega arith)))

        removing : p.kind ≡ 2 → (inside_in marks s ≡ adds p) ↔ OtherSide p.kind (Inside marks) s
        removing k =
            let is = ne_eqb p.kind 1 (λ (e : p.kind ≡ 1). omega arith) in (
              λ e. inr (k, λ i. not_both ((inside_reads marks s).1 i) (e ∙ is)),
              ⊎_elim (λ (k', _). absurd (omega arith)) (λ (_, off). is_false (inside_in marks s) (λ i. off ((inside_reads marks s).0 i)) ∙ sym is),
            )
