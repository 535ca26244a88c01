-- The local ring lemma: what flipping the three edges of a triangle does to a ring.
-- S are the edges before and S' those after. They differ in the three edges between x, y and z, each of which is in just one of them.
-- How many of the three are in S decides:
--     three     S' is empty
--     two       S' is a ring
--     one       S' is a ring exactly if the corner opposite that edge is no end of S
--     none      S' is a ring exactly if S is empty
use Rattle.std.specs.Prelude.{◌≡◌, refl, ◌⊎◌, ◌↔◌, ◌≢◌, ℕ, ◌<◌}
use Rattle.std.proofs.Common.{sym, ◌∙◌, subst, inl, inr, ⊎_elim}
use Rattle.std.proofs.Math.Logic.{Ne-symm}
use Rattle.rules.specs.Laws.Truth.{same_or_not}
use Rattle.rules.specs.Laws.Joined.{Chain, stay, step, chain_join, chain_back, chain_map}
use Rattle.rules.specs.Reading.Ring as Reading
use Rattle.rules.specs.Reading.Ring.{OneRing, ends_joined, joined_ends}
use Rattle.manifold.specs.Facet.{Flips}

-- ---- rings

abbrev pub Edges : Type 1
Edges = ℕ → ℕ → Type 0

-- exactly two have the property
pub record Two (P : ℕ → Type 0) : Type 0 where
  pub one : ℕ
  pub two : ℕ
  pub one_is : P one
  pub two_is : P two
  pub differ : one ≢ two
  pub only : (k : ℕ) → P k → (k ≡ one) ⊎ (k ≡ two)

abbrev pub End : Edges → ℕ → Type 0
End S a = (b : ℕ) × S a b

-- each end lies on exactly two edges, and any two ends are joined by a chain of edges
pub record Ring (S : Edges) : Type 0 where
  pub two : (a b : ℕ) → S a b → Two (S a)
  pub joined : (a c : ℕ) → End S a → End S c → Chain (End S) S a c

abbrev pub Empty : Edges → Type 0
Empty S = (a b : ℕ) → S a b → ⊥

pub empty_ring : {S : Edges} → Empty S → Ring S
empty_ring none = record { two = λ a b e. absurd (none a b e); joined = λ a c (b, e) _. absurd (none a b e) }

-- the same edges, the same ring
pub ring_along : {S S' : Edges} → ((a b : ℕ) → S a b → S' a b) → ((a b : ℕ) → S' a b → S a b) → Ring S → Ring S'
ring_along forth back ring = record {
  two = λ a b s. let x = ring.two a b (back a b s) in record {
    one = x.one;
    two = x.two;
    one_is = forth a x.one x.one_is;
    two_is = forth a x.two x.two_is;
    differ = x.differ;
    only = λ k h. x.only k (back a k h);
  };
  joined = λ a c (b, p) (d, q). chain_map (λ x (y, s). (y, forth x y s)) (λ x y _ _ s. forth x y s) (ring.joined a c (b, back a b p) (d, back c d q));
}

-- ---- a triangle whose edges are flipped

-- x, y and z are the corners
pub record Corners (T : ℕ → Type 0) (x y z : ℕ) : Type 0 where
  pub first : T x
  pub second : T y
  pub third : T z
  pub xy : x ≢ y
  pub yz : y ≢ z
  pub zx : z ≢ x
  pub only : (a : ℕ) → T a → (a ≡ x) ⊎ ((a ≡ y) ⊎ (a ≡ z))

-- the corners may be named in any order
pub turn : {T : ℕ → Type 0} {x y z : ℕ} → Corners T x y z → Corners T y z x
turn c = record {
  first = c.second;
  second = c.third;
  third = c.first;
  xy = c.yz;
  yz = c.zx;
  zx = c.xy;
  only = λ a h. ⊎_elim (λ e. inr (inr e)) (⊎_elim inl (λ e. inr (inl e))) (c.only a h);
}

swap : {T : ℕ → Type 0} {x y z : ℕ} → Corners T x y z → Corners T y x z
swap c = record {
  first = c.second;
  second = c.first;
  third = c.third;
  xy = Ne-symm c.xy;
  yz = Ne-symm c.zx;
  zx = Ne-symm c.yz;
  only = λ a h. ⊎_elim (λ e. inr (inl e)) (⊎_elim inl (λ e. inr (inr e))) (c.only a h);
}

pub record Flipped (T : ℕ → Type 0) (S S' : Edges) : Type 0 where
  pub back : (a b : ℕ) → S a b → S b a
  pub back' : (a b : ℕ) → S' a b → S' b a
  pub apart : (a b : ℕ) → S a b → a ≢ b
  pub apart' : (a b : ℕ) → S' a b → a ≢ b
  -- an edge between two corners is in one of them, any other in both or in none
  pub between : (a b : ℕ) → T a → T b → a ≢ b → Flips (S a b) (S' a b)
  pub elsewhere : (a b : ℕ) → (T a → T b → ⊥) → S a b → S' a b
  pub elsewhere' : (a b : ℕ) → (T a → T b → ⊥) → S' a b → S a b

-- flipped back
pub other_way : {T : ℕ → Type 0} {S S' : Edges} → Flipped T S S' → Flipped T S' S
other_way f = record {
  back = f.back';
  back' = f.back;
  apart = f.apart';
  apart' = f.apart;
  between = λ a b p q ne. ⊎_elim inr inl (f.between a b p q ne);
  elsewhere = f.elsewhere';
  elsewhere' = f.elsewhere;
}

-- ---- what is in one is not in the other

flips_first : {P Q : Type 0} → Flips P Q → P → Q → ⊥
flips_first (inl (_, n)) p q = n q
flips_first (inr (_, n)) p q = n p

pub flips_second : {P Q : Type 0} → Flips P Q → (P → ⊥) → Q
flips_second (inl (p, _)) n = absurd (n p)
flips_second (inr (q, _)) n = q

-- of exactly two, of which two are known, a third is one of them
two_known : {P : ℕ → Type 0} → Two P → (p q : ℕ) → P p → P q → p ≢ q → (k : ℕ) → P k → (k ≡ p) ⊎ (k ≡ q)
two_known t p q hp hq ne k hk = go (t.only p hp) (t.only q hq) (t.only k hk)
  where
    go : (p ≡ t.one) ⊎ (p ≡ t.two) → (q ≡ t.one) ⊎ (q ≡ t.two) → (k ≡ t.one) ⊎ (k ≡ t.two) → (k ≡ p) ⊎ (k ≡ q)
    go (inl a) (inl b) _ = absurd (ne (a ∙ sym b))
    go (inr a) (inr b) _ = absurd (ne (a ∙ sym b))
    go (inl a) (inr b) (inl e) = inl (e ∙ sym a)
    go (inl a) (inr b) (inr e) = inr (e ∙ sym b)
    go (inr a) (inl b) (inl e) = inr (e ∙ sym b)
    go (inr a) (inl b) (inr e) = inl (e ∙ sym a)

-- the other of exactly two, of which one is known
record OtherOf (P : ℕ → Type 0) (p : ℕ) : Type 0 where
  pub other : ℕ
  pub is : P other
  pub differs : other ≢ p
  pub only : (k : ℕ) → P k → k ≢ p → k ≡ other

other_of : {P : ℕ → Type 0} → Two P → (p : ℕ) → P p → OtherOf P p
other_of {P} t p hp = go (t.only p hp)
  where
    go : (p ≡ t.one) ⊎ (p ≡ t.two) → OtherOf P p
    go (inl e) = record {
      other = t.two;
      is = t.two_is;
      differs = λ (q : t.two ≡ p). t.differ (sym (q ∙ e));
      only = λ k h ne. ⊎_elim (λ (q : k ≡ t.one). absurd (ne (q ∙ sym e))) (λ q. q) (t.only k h);
    }
    go (inr e) = record {
      other = t.one;
      is = t.one_is;
      differs = λ (q : t.one ≡ p). t.differ (q ∙ e);
      only = λ k h ne. ⊎_elim (λ q. q) (λ (q : k ≡ t.two). absurd (ne (q ∙ sym e))) (t.only k h);
    }

module _ {T : ℕ → Type 0} {x y z : ℕ} (c : Corners T x y z) where
  corner_or_not : (a : ℕ) → T a ⊎ (T a → ⊥)
  corner_or_not a =
      ⊎_elim (λ (e : a ≡ x). inl (subst T (sym e) c.first)) (λ n₁.
      ⊎_elim (λ (e : a ≡ y). inl (subst T (sym e) c.second)) (λ n₂.
      ⊎_elim (λ (e : a ≡ z). inl (subst T (sym e) c.third))
      (λ n₃. inr (λ h. ⊎_elim n₁ (⊎_elim n₂ n₃) (c.only a h))) (same_or_not a z)) (same_or_not a y)) (same_or_not a x)

  -- what holds of x, of y and of z holds of each corner
  by_corner : (P : ℕ → Type 0) → P x → P y → P z → (a : ℕ) → T a → P a
  by_corner P px py pz a ta =
      ⊎_elim (λ (e : a ≡ x). subst P (sym e) px) (⊎_elim (λ (e : a ≡ y). subst P (sym e) py) (λ (e : a ≡ z). subst P (sym e) pz)) (c.only a ta)

  -- what holds of the three edges, both ways, holds between any two corners
  each_edge : (R : Edges) → ((a b : ℕ) → R a b → R b a) → R x y → R y z → R z x → (a b : ℕ) → T a → T b → a ≢ b → R a b
  each_edge R back rxy ryz rzx a b ta tb =
      by_corner (λ u. (v : ℕ) → T v → u ≢ v → R u v)
      (by_corner (λ v. x ≢ v → R x v) (λ ne. absurd (ne refl)) (λ _. rxy) (λ _. back z x rzx))
      (by_corner (λ v. y ≢ v → R y v) (λ _. back x y rxy) (λ ne. absurd (ne refl)) (λ _. ryz))
      (by_corner (λ v. z ≢ v → R z v) (λ _. rzx) (λ _. back y z ryz) (λ ne. absurd (ne refl))) a ta b tb

  module _ {S S' : Edges} (f : Flipped T S S') where
    -- an end that is no corner keeps its edges
    kept : {a : ℕ} → (T a → ⊥) → Two (S a) → Two (S' a)
    kept {a} off t = record {
      one = t.one;
      two = t.two;
      one_is = f.elsewhere a t.one (λ ta _. off ta) t.one_is;
      two_is = f.elsewhere a t.two (λ ta _. off ta) t.two_is;
      differ = t.differ;
      only = λ k s'. t.only k (f.elsewhere' a k (λ ta _. off ta) s');
    }

    -- a corner that was joined to one of the other two is now joined to the other
    moved : S x y → (S x z → ⊥) → Two (S x) → Two (S' x)
    moved sxy nxz t = record {
      one = o.other;
      two = z;
      one_is = f.elsewhere x o.other (λ _. outside) o.is;
      two_is = flips_second (f.between x z c.first c.third (Ne-symm c.zx)) nxz;
      differ = λ (e : o.other ≡ z). outside (subst T (sym e) c.third);
      only = λ k s'.
          ⊎_elim (λ tk. inr (corner k tk s'))
          (λ nk. inl (o.only k (f.elsewhere' x k (λ _ tk. nk tk) s') (λ (e : k ≡ y). nk (subst T (sym e) c.second)))) (corner_or_not k);
    }
      where
        o : OtherOf (S x) y
        o = other_of t y sxy

        outside : T o.other → ⊥
        outside h = by_corner (λ u. S x u → u ≢ y → ⊥) (λ s _. f.apart x x s refl) (λ _ ne. ne refl) (λ s _. nxz s) o.other h o.is o.differs

        corner : (k : ℕ) → T k → S' x k → k ≡ z
        corner =
            by_corner (λ u. S' x u → u ≡ z) (λ s'. absurd (f.apart' x x s' refl))
            (λ s'. absurd (flips_first (f.between x y c.first c.second c.xy) sxy s')) (λ _. refl)

-- ---- the four cases

module _ {T : ℕ → Type 0} {x y z : ℕ} (c : Corners T x y z) {S S' : Edges} (f : Flipped T S S') where
  -- three: all three edges are in S, so they are the whole ring, and nothing is left
  pub three_in : S x y → S y z → S z x → Ring S → Empty S'
  three_in sxy syz szx ring a b s' =
      ⊎_elim
      (λ ta. ⊎_elim (λ tb. flips_first (f.between a b ta tb (f.apart' a b s')) (whole a b ta tb (f.apart' a b s')) s')
      (λ nb. nb (reached b (a, f.back a b (f.elsewhere' a b (λ _. nb) s')))) (corner_or_not c b))
      (λ na. na (reached a (b, f.elsewhere' a b (λ ta _. na ta) s'))) (corner_or_not c a)
    where
      whole : (a b : ℕ) → T a → T b → a ≢ b → S a b
      whole = each_edge c S f.back sxy syz szx

      -- an edge from a corner leads to a corner
      leads : (p : ℕ) → T p → (q : ℕ) → S p q → T q
      leads =
          by_corner c (λ p. (q : ℕ) → S p q → T q) (from x y z sxy (f.back z x szx) c.yz c.second c.third)
          (from y z x syz (f.back x y sxy) c.zx c.third c.first) (from z x y szx (f.back y z syz) c.xy c.first c.second)
        where
          from : (p u v : ℕ) → S p u → S p v → u ≢ v → T u → T v → (q : ℕ) → S p q → T q
          from p u v su sv ne tu tv q s =
              ⊎_elim (λ (e : q ≡ u). subst T (sym e) tu) (λ (e : q ≡ v). subst T (sym e) tv) (two_known (ring.two p q s) u v su sv ne q s)

      stays : {p q : ℕ} → Chain (End S) S p q → T p → T q
      stays (stay _ e) tp = subst T e tp
      stays (step {x = u} {y = v} _ s d) tp = stays d (leads u tp v s)

      reached : (p : ℕ) → End S p → T p
      reached p e = stays (ring.joined x p (y, sxy) e) c.first

  -- two: both edges at y are in S, so y leaves the ring, and x and z are joined instead
  pub two_in : S x y → S y z → (S z x → ⊥) → Ring S → Ring S'
  two_in sxy syz nzx ring = record { two = two'; joined = joined' }
    where
      szx' : S' z x
      szx' = flips_second (f.between z x c.third c.first c.zx) nzx

      x_end : End S' x
      x_end = (z, f.back' z x szx')

      z_end : End S' z
      z_end = (x, szx')

      of_y : (b : ℕ) → S y b → (b ≡ x) ⊎ (b ≡ z)
      of_y b s = two_known (ring.two y x (f.back x y sxy)) x z (f.back x y sxy) syz (Ne-symm c.zx) b s

      no_y : (b : ℕ) → S' y b → ⊥
      no_y b s' =
          ⊎_elim (λ tb. corner b tb s')
          (λ nb. ⊎_elim (λ (e : b ≡ x). nb (subst T (sym e) c.first)) (λ (e : b ≡ z). nb (subst T (sym e) c.third)) (of_y b (f.elsewhere' y b (λ _. nb) s')))
          (corner_or_not c b)
        where
          corner : (b : ℕ) → T b → S' y b → ⊥
          corner =
              by_corner c (λ b. S' y b → ⊥) (flips_first (f.between y x c.second c.first (Ne-symm c.xy)) (f.back x y sxy))
              (λ s'. f.apart' y y s' refl) (flips_first (f.between y z c.second c.third c.yz) syz)

      two' : (a b : ℕ) → S' a b → Two (S' a)
      two' a b s' = ⊎_elim (λ ta. corner a ta b s') (λ na. kept c f na (ring.two a b (f.elsewhere' a b (λ ta _. na ta) s'))) (corner_or_not c a)
        where
          corner : (a : ℕ) → T a → (b : ℕ) → S' a b → Two (S' a)
          corner =
              by_corner c (λ u. (b : ℕ) → S' u b → Two (S' u)) (λ _ _. moved c f sxy (λ s. nzx (f.back x z s)) (ring.two x y sxy))
              (λ b s'. absurd (no_y b s')) (λ _ _. moved (swap (turn c)) f (f.back y z syz) nzx (ring.two z y (f.back y z syz)))

      -- an end that is not y was an end before, and the other way round
      new_end : (a : ℕ) → a ≢ y → End S a → End S' a
      new_end a ne (b, s) =
          ⊎_elim (λ ta. by_corner c (λ u. u ≢ y → End S' u) (λ _. x_end) (λ n. absurd (n refl)) (λ _. z_end) a ta ne)
          (λ na. (b, f.elsewhere a b (λ ta _. na ta) s)) (corner_or_not c a)

      old_end : (a : ℕ) → End S' a → (a ≢ y) × End S a
      old_end a (b, s') = (
        λ (e : a ≡ y). no_y b (subst (λ (u : ℕ). S' u b) e s'),
        ⊎_elim (λ ta. by_corner c (λ u. (b : ℕ) → S' u b → End S u) (λ _ _. (y, sxy)) (λ b s'. absurd (no_y b s')) (λ _ _. (y, f.back y z syz)) a ta b s')
            (λ na. (b, f.elsewhere' a b (λ ta _. na ta) s')) (corner_or_not c a),
      )

      -- an edge that is not at y stays
      stays : (a b : ℕ) → a ≢ y → b ≢ y → S a b → S' a b
      stays a b na nb s =
          f.elsewhere a b (λ ta tb.
          by_corner c (λ u. u ≢ y → (v : ℕ) → T v → v ≢ y → S u v → ⊥)
          (λ _. by_corner c (λ v. v ≢ y → S x v → ⊥) (λ _ s. f.apart x x s refl) (λ n. absurd (n refl)) (λ _ s. nzx (f.back x z s)))
          (λ n. absurd (n refl))
          (λ _. by_corner c (λ v. v ≢ y → S z v → ⊥) (λ _ s. nzx s) (λ n. absurd (n refl)) (λ _ s. f.apart z z s refl)) a ta na b tb nb s) s

      Way : ℕ → ℕ → Type 0
      Way = Chain (End S') S'

      -- a chain that passes y goes from x to z instead, or back
      detour : {a d : ℕ} → Chain (End S) S a d → d ≢ y → (a ≢ y → Way a d) × (a ≡ y → Way x d × Way z d)
      detour (stay {x = a} m e) nd = (λ na. stay (new_end a na m) e, λ (g : a ≡ y). absurd (nd (sym e ∙ g)))
      detour {d = d} (step {x = a} {y = b} m s rest) nd = (
        λ na. ⊎_elim (λ (g : b ≡ y). from_y ((detour rest nd).1 g) (of_y a (f.back a y (subst (S a) g s))))
            (λ nb. step (new_end a na m) (stays a b na nb s) ((detour rest nd).0 nb)) (same_or_not b y),
        λ (g : a ≡ y). to_y (of_y b (subst (λ (u : ℕ). S u b) g s)) ((detour rest nd).0 (λ (h : b ≡ y). f.apart a b s (g ∙ sym h))),
      )
        where
          from_y : Way x d × Way z d → (a ≡ x) ⊎ (a ≡ z) → Way a d
          from_y (wx, wz) (inl e) = subst (λ (u : ℕ). Way u d) (sym e) wx
          from_y (wx, wz) (inr e) = subst (λ (u : ℕ). Way u d) (sym e) wz

          to_y : (b ≡ x) ⊎ (b ≡ z) → Way b d → Way x d × Way z d
          to_y (inl e) w = let wx = subst (λ (u : ℕ). Way u d) e w in (wx, step z_end szx' wx)
          to_y (inr e) w = let wz = subst (λ (u : ℕ). Way u d) e w in (step x_end (f.back' z x szx') wz, wz)

      joined' : (a d : ℕ) → End S' a → End S' d → Way a d
      joined' a d p q =
          let (na, ea) = old_end a p in
          let (nd, ed) = old_end d q in
          (detour (ring.joined a d ea ed) nd).0 na

  -- one: z comes between x and y, if it was no end
  pub one_in : S x y → (S y z → ⊥) → (S z x → ⊥) → (End S z → ⊥) → Ring S → Ring S'
  one_in sxy nyz nzx nz ring = record { two = two'; joined = joined' }
    where
      syz' : S' y z
      syz' = flips_second (f.between y z c.second c.third c.yz) nyz

      szx' : S' z x
      szx' = flips_second (f.between z x c.third c.first c.zx) nzx

      two_z : Two (S' z)
      two_z = record {
        one = x;
        two = y;
        one_is = szx';
        two_is = f.back' y z syz';
        differ = c.xy;
        only = λ k s'.
            ⊎_elim (λ tk. by_corner c (λ u. S' z u → (u ≡ x) ⊎ (u ≡ y)) (λ _. inl refl) (λ _. inr refl) (λ s. absurd (f.apart' z z s refl)) k tk s')
            (λ nk. absurd (nz (k, f.elsewhere' z k (λ _. nk) s'))) (corner_or_not c k);
      }

      two' : (a b : ℕ) → S' a b → Two (S' a)
      two' a b s' =
          ⊎_elim
          (λ ta. by_corner c (λ u. Two (S' u)) (moved c f sxy (λ s. nzx (f.back x z s)) (ring.two x y sxy))
          (moved (swap c) f (f.back x y sxy) nyz (ring.two y x (f.back x y sxy))) two_z a ta)
          (λ na. kept c f na (ring.two a b (f.elsewhere' a b (λ ta _. na ta) s'))) (corner_or_not c a)

      Way : ℕ → ℕ → Type 0
      Way = Chain (End S') S'

      -- an end before is an end after
      new_end : (a : ℕ) → End S a → End S' a
      new_end a (b, s) =
          ⊎_elim (λ ta. by_corner c (λ u. End S' u) (z, f.back' z x szx') (z, syz') (x, szx') a ta) (λ na. (b, f.elsewhere a b (λ ta _. na ta) s)) (corner_or_not c a)

      -- between two corners the way goes by z
      by_z : (a b : ℕ) → T a → T b → S a b → {d : ℕ} → Way b d → Way a d
      by_z a b ta tb s {d} w =
          by_corner c (λ u. (v : ℕ) → T v → S u v → Way v d → Way u d)
          (by_corner c (λ v. S x v → Way v d → Way x d) (λ s _. absurd (f.apart x x s refl))
          (λ _ w. step (z, f.back' z x szx') (f.back' z x szx') (step (x, szx') (f.back' y z syz') w)) (λ s _. absurd (nzx (f.back x z s))))
          (by_corner c (λ v. S y v → Way v d → Way y d) (λ _ w. step (z, syz') syz' (step (x, szx') szx' w)) (λ s _. absurd (f.apart y y s refl)) (λ s _. absurd (nyz s)))
          (λ v _ s _. absurd (nz (v, s))) a ta b tb s w

      convert : {a d : ℕ} → Chain (End S) S a d → Way a d
      convert (stay {x = a} m e) = stay (new_end a m) e
      convert (step {x = a} {y = b} m s rest) =
          let further = convert rest in
          ⊎_elim (λ ta. ⊎_elim (λ tb. by_z a b ta tb s further) (λ nb. step (new_end a m) (f.elsewhere a b (λ _. nb) s) further) (corner_or_not c b))
          (λ na. step (new_end a m) (f.elsewhere a b (λ ta _. na ta) s) further) (corner_or_not c a)

      -- an end after was one before, or is z, which is next to x
      to_old : (a : ℕ) → End S' a → (b : ℕ) × End S b × Way a b
      to_old a (b, s') =
          ⊎_elim
          (λ ta. by_corner c (λ u. (b : ℕ) × End S b × Way u b) (x, (y, sxy), stay (z, f.back' z x szx') refl)
          (y, (x, f.back x y sxy), stay (z, syz') refl) (x, (y, sxy), step (x, szx') szx' (stay (z, f.back' z x szx') refl)) a ta)
          (λ na. (a, (b, f.elsewhere' a b (λ ta _. na ta) s'), stay (b, s') refl)) (corner_or_not c a)

      joined' : (a d : ℕ) → End S' a → End S' d → Way a d
      joined' a d p q =
          let (a₀, ea, wa) = to_old a p in
          let (d₀, ed, wd) = to_old d q in
          chain_join wa (chain_join (convert (ring.joined a₀ d₀ ea ed)) (chain_back (λ u v _ _ s. f.back' u v s) wd))

  -- and if it was an end, it lies on three edges afterwards
  pub one_in_free : (S y z → ⊥) → (S z x → ⊥) → Ring S' → End S z → ⊥
  one_in_free nyz nzx ring' (w, s) = ⊎_elim (λ (e : w ≡ x). nw (subst T (sym e) c.first)) (λ (e : w ≡ y). nw (subst T (sym e) c.second)) among
    where
      nw : T w → ⊥
      nw tw = by_corner c (λ u. S z u → ⊥) nzx (λ s. nyz (f.back z y s)) (λ s. f.apart z z s refl) w tw s

      szx' : S' z x
      szx' = flips_second (f.between z x c.third c.first c.zx) nzx

      szy' : S' z y
      szy' = f.back' y z (flips_second (f.between y z c.second c.third c.yz) nyz)

      among : (w ≡ x) ⊎ (w ≡ y)
      among = two_known (ring'.two z x szx') x y szx' szy' c.xy w (f.elsewhere z w (λ _. nw) s)

  -- none: the triangle is a ring of its own
  pub none_in : Empty S → Ring S'
  none_in none = record { two = two'; joined = joined' }
    where
      now : (a b : ℕ) → T a → T b → a ≢ b → S' a b
      now a b ta tb ne = flips_second (f.between a b ta tb ne) (none a b)

      corner : (a b : ℕ) → S' a b → T a
      corner a b s' = ⊎_elim (λ ta. ta) (λ na. absurd (none a b (f.elsewhere' a b (λ ta _. na ta) s'))) (corner_or_not c a)

      to : (a u v : ℕ) → T a → T u → T v → a ≢ u → a ≢ v → u ≢ v → ((k : ℕ) → T k → a ≢ k → (k ≡ u) ⊎ (k ≡ v)) → Two (S' a)
      to a u v ta tu tv au av uv rest = record {
        one = u;
        two = v;
        one_is = now a u ta tu au;
        two_is = now a v ta tv av;
        differ = uv;
        only = λ k s'. rest k (corner k a (f.back' a k s')) (f.apart' a k s');
      }

      two' : (a b : ℕ) → S' a b → Two (S' a)
      two' a b s' =
          by_corner c (λ u. Two (S' u))
          (to x y z c.first c.second c.third c.xy (Ne-symm c.zx) c.yz
          (by_corner c (λ k. x ≢ k → (k ≡ y) ⊎ (k ≡ z)) (λ n. absurd (n refl)) (λ _. inl refl) (λ _. inr refl)))
          (to y z x c.second c.third c.first c.yz (Ne-symm c.xy) c.zx
          (by_corner c (λ k. y ≢ k → (k ≡ z) ⊎ (k ≡ x)) (λ _. inr refl) (λ n. absurd (n refl)) (λ _. inl refl)))
          (to z x y c.third c.first c.second c.zx (Ne-symm c.yz) c.xy
          (by_corner c (λ k. z ≢ k → (k ≡ x) ⊎ (k ≡ y)) (λ _. inl refl) (λ _. inr refl) (λ n. absurd (n refl)))) a (corner a b s')

      joined' : (a d : ℕ) → End S' a → End S' d → Chain (End S') S' a d
      joined' a d (b, p) (g, q) =
          ⊎_elim (λ e. stay (b, p) e) (λ ne. step (b, p) (now a d (corner a b p) (corner d g q) ne) (stay (g, q) refl)) (same_or_not a d)

-- ---- the ring of `rules`, which speaks of numbers below n

module _ {n : ℕ} {S : Edges} (below : (a b : ℕ) → S a b → (a < n) × (b < n)) (back : (a b : ℕ) → S a b → S b a) where
  edge : (a b : ℕ) → S a b → Reading.Edge n S (a, b)
  edge a b s = let (la, lb) = below a b s in (la, lb, s)

  pub ring_reads : OneRing n S ↔ Ring S
  ring_reads = (
    λ ring. record {
      two = λ a b s. let x = ring.two a b (edge a b s) in record {
        one = x.one;
        two = x.two;
        one_is = x.one_is;
        two_is = x.two_is;
        differ = x.differ;
        only = λ k h. x.only k (below a k h).1 h;
      };
      joined = λ a c (b, p) (d, q). chain_map (λ x (y, (_, _, s)). (y, s)) (λ x y _ _ s. s) (ends_joined n S back ring a c (b, edge a b p) (d, edge c d q));
    },
    λ ring.
        joined_ends n S back
        (λ a b (_, _, s). let x = ring.two a b s in record {
          one = x.one;
          two = x.two;
          one_below = (below a x.one x.one_is).1;
          two_below = (below a x.two x.two_is).1;
          one_is = x.one_is;
          two_is = x.two_is;
          differ = x.differ;
          only = λ k _ h. x.only k h;
        })
        (λ a c (b, (_, _, p)) (d, (_, _, q)). chain_map (λ x (y, s). (y, edge x y s)) (λ x y _ _ s. s) (ring.joined a c (b, p) (d, q))),
  )
