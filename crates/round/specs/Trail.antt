-- Numbers below n, each near exactly two others. A walk that always goes on to the other one comes to no number twice, so it comes back to its first.
use Rattle.std.specs.Prelude.{◌≡◌, refl, ◌⊎◌, ◌≢◌, Bool, true, false, ◌||◌, ℕ, ◌+◌, ◌≤◌, ◌<◌, eqb}
use Rattle.std.proofs.Common.{sym, ap, ◌∙◌, subst, inl, inr, ⊎_elim, arith, eqb-true, eq-eqb}
use Rattle.rules.specs.Below.{count}
use Rattle.rules.specs.Laws.Truth.{not_both, is_false, same_test, same_or_not, lower_same_higher, or_either, or_first, or_second}
use Rattle.rules.specs.Laws.Count.{without, count_without, without_is, is_without, count_same, count_not, two_count, ExactlyTwo, TheOther, the_other}
use Rattle.rules.specs.Laws.Joined.{Chain, chain_passes}

-- of what is near to `at`, y is the one other than `from`
pub record Next (Near : ℕ → ℕ → Type 0) (from at y : ℕ) : Type 0 where
  pub near : Near at y
  pub on : y ≢ from
  pub only : (u : ℕ) → Near at u → u ≢ from → u ≡ y

-- A walk from `first` to `second` and on, not back and not to the first, by numbers that are `On`: in k steps it came on from `from` to `at`.
pub data Walk (Near : ℕ → ℕ → Type 0) (On : ℕ → Type 0) (first second : ℕ) : ℕ → ℕ → ℕ → Type 0 where
  begins : {k from at : ℕ} → k ≡ 0 → from ≡ first → at ≡ second → Walk Near On first second k from at
  goes : {k from at n y : ℕ} → Walk Near On first second k from at → Next Near from at y → y ≢ first → On y → n ≡ k + 1 → Walk Near On first second n at y

-- and y is the next number
pub record Going (Near : ℕ → ℕ → Type 0) (On : ℕ → Type 0) (first second k at y : ℕ) : Type 0 where
  pub from : ℕ
  pub walk : Walk Near On first second k from at
  pub next : Next Near from at y

-- It stops where the next number is the first or is not `On`.
pub record Stopped (Near : ℕ → ℕ → Type 0) (On : ℕ → Type 0) (first second at y : ℕ) : Type 0 where
  pub k : ℕ
  pub going : Going Near On first second k at y
  pub stops : (y ≡ first) ⊎ (On y → ⊥)

-- ---- a walk has one possible stop

-- it went on from its place after k steps
record Passed (Near : ℕ → ℕ → Type 0) (On : ℕ → Type 0) (first second k : ℕ) : Type 0 where
  at : ℕ
  y : ℕ
  going : Going Near On first second k at y
  away : y ≢ first
  on : On y

next_once : {Near : ℕ → ℕ → Type 0} {from at y from' at' y' : ℕ} → from ≡ from' → at ≡ at' → Next Near from at y → Next Near from' at' y' → y ≡ y'
next_once {Near} {from} {y' = y'} p q n n' = sym (n.only y' (subst (λ u. Near u y') (sym q) n'.near) (λ (e : y' ≡ from). n'.on (e ∙ p)))

module _ {Near : ℕ → ℕ → Type 0} {On : ℕ → Type 0} {first second : ℕ} where
  walk_once : {k from at k' from' at' : ℕ} → Walk Near On first second k from at → Walk Near On first second k' from' at' → k ≡ k' → (from ≡ from') × (at ≡ at')
  walk_once (begins z f s) (begins z' f' s') e = (f ∙ sym f', s ∙ sym s')
  walk_once (begins z f s) (goes w' n' a' o' m') e = absurd (omega arith)
  walk_once (goes w n a o m) (begins z' f' s') e = absurd (omega arith)
  walk_once (goes w n a o m) (goes w' n' a' o' m') e = let (p, q) = walk_once w w' (omega arith) in (q, next_once p q n n')

  going_once : {k at y at' y' : ℕ} → Going Near On first second k at y → Going Near On first second k at' y' → (at ≡ at') × (y ≡ y')
  going_once g h = let (p, q) = walk_once g.walk h.walk refl in (q, next_once p q g.next h.next)

  walk_passed : {n from at : ℕ} → Walk Near On first second n from at → (i : ℕ) → i < n → Passed Near On first second i
  walk_passed (begins z f s) i l = absurd (omega arith)
  walk_passed (goes {k} {from} {at} {n} {y} w x a o m) i l =
      ⊎_elim (λ (e : i ≡ k). rw e (record { at = at; y = y; going = record { from = from; walk = w; next = x }; away = a; on = o }))
      (λ ne. walk_passed w i (omega (arith, ne))) (same_or_not i k)

  no_further : {at y : ℕ} (s : Stopped Near On first second at y) → Passed Near On first second s.k → ⊥
  no_further {at} {y} s p =
      let (_, e) = going_once s.going p.going in
      ⊎_elim (λ (home : y ≡ first). p.away (sym e ∙ home)) (λ off. off (subst On (sym e) p.on)) s.stops

  pub stopped_once : {at y at' y' : ℕ} → Stopped Near On first second at y → Stopped Near On first second at' y' → (at ≡ at') × (y ≡ y')
  stopped_once {at} {y} {at'} {y'} s s' = go (lower_same_higher s.k s'.k)
    where
      go : (s.k < s'.k) ⊎ (s.k ≡ s'.k) ⊎ (s'.k < s.k) → (at ≡ at') × (y ≡ y')
      go (inl l) = absurd (no_further s (walk_passed s'.going.walk s.k l))
      go (inr (inl e)) = going_once (subst (λ k. Going Near On first second k at y) e s.going) s'.going
      go (inr (inr l)) = absurd (no_further s' (walk_passed s.going.walk s'.k l))

-- where it is, is `On`
pub walk_on : {Near : ℕ → ℕ → Type 0} {On : ℕ → Type 0} {first second k from at : ℕ} → Walk Near On first second k from at → On second → On at
walk_on {On = On} (begins z f s) on = subst On (sym s) on
walk_on (goes w n a o m) on = o

-- ---- one number more

-- p and y
abbrev pub with : (ℕ → Bool) → ℕ → ℕ → Bool
with p y z = p z || eqb z y

with_new : (p : ℕ → Bool) (y : ℕ) → with p y y ≡ true
with_new p y = or_second (p y) (eq-eqb y y refl)

with_old : (p : ℕ → Bool) (y z : ℕ) → p z ≡ true → with p y z ≡ true
with_old p y z t = or_first (eqb z y) t

pub with_either : (p : ℕ → Bool) (y z : ℕ) → with p y z ≡ true → (p z ≡ true) ⊎ (z ≡ y)
with_either p y z t = ⊎_elim inl (λ e. inr (eqb-true z y e)) (or_either (p z) (eqb z y) t)

count_with : (n : ℕ) (p : ℕ → Bool) (y : ℕ) → y < n → p y ≡ false → count n (with p y) ≡ count n p + 1
count_with n p y l off =
    count_without n (with p y) y l (with_new p y) ∙ ap (λ (m : ℕ). m + 1) (count_same n (without (with p y) y) p (λ z _.
    same_test (without (with p y) y z) (p z)
    (λ w. let (t, ne) = without_is (with p y) y z w in ⊎_elim (λ t. t) (λ (e : z ≡ y). absurd (ne e)) (with_either p y z t))
    (λ t. is_without (with p y) y z (with_old p y z t) (λ (e : z ≡ y). not_both t (ap p e ∙ off)))))

-- one of two
abbrev pub pair : ℕ → ℕ → ℕ → Bool
pair a b z = eqb z a || eqb z b

pub pair_either : (a b z : ℕ) → pair a b z ≡ true → (z ≡ a) ⊎ (z ≡ b)
pair_either a b z t = ⊎_elim (λ e. inl (eqb-true z a e)) (λ e. inr (eqb-true z b e)) (or_either (eqb z a) (eqb z b) t)

-- ---- what a walk has seen

-- The walk went from `first` to `second` and on, and in k steps came on from `from` to `at`.
pub record Trail (n : ℕ) (Near : ℕ → ℕ → Type 0) (first second from at k : ℕ) (seen : ℕ → Bool) : Type 0 where
  pub counted : count n seen ≡ k + 2
  pub start : Near first second
  pub first_seen : seen first ≡ true
  pub second_seen : seen second ≡ true
  pub from_seen : seen from ≡ true
  pub at_seen : seen at ≡ true
  -- what is near a number that was seen was seen, but for the two ends
  pub inner : (z y : ℕ) → seen z ≡ true → z ≢ first → z ≢ at → Near z y → seen y ≡ true
  -- of what was seen none but `from` and perhaps the first is near to where the walk is now
  pub lone : (z : ℕ) → seen z ≡ true → z ≢ first → Near z at → z ≡ from
  pub once : at ≡ second → from ≡ first

-- no longer than there are numbers
pub trail_few : {n : ℕ} {Near : ℕ → ℕ → Type 0} {first second from at k : ℕ} {seen : ℕ → Bool} → Trail n Near first second from at k seen → k + 2 ≤ n
trail_few {n} {seen = seen} w = omega (arith, w.counted, count_not n seen)

-- with what was seen, all of it `On` but perhaps the first
pub record Behind (n : ℕ) (Near : ℕ → ℕ → Type 0) (On : ℕ → Type 0) (first second from at k : ℕ) : Type 0 where
  pub seen : ℕ → Bool
  pub trail : Trail n Near first second from at k seen
  pub all_on : (z : ℕ) → seen z ≡ true → z ≢ first → On z

module _ {n : ℕ} {Near : ℕ → ℕ → Type 0} (back : (x y : ℕ) → Near x y → Near y x) (apart : (x y : ℕ) → Near x y → x ≢ y) (below : (x y : ℕ) → Near x y → y < n) where
  pub next_of : {from at y : ℕ} → ExactlyTwo n (Near at) → Near at from → Near at y → y ≢ from → Next Near from at y
  next_of {from} {at} {y} two p q ne =
      let o = the_other two from (below at from p) p in
      record { near = q; on = ne; only = λ u r d. o.only u (below at u r) r d ∙ sym (o.only y (below at y q) q ne) }

  pub trail_begins : (first second : ℕ) → Near first second → Trail n Near first second first second 0 (pair first second)
  trail_begins first second near = record {
    counted = two_count n (pair first second) (record {
      one = first;
      two = second;
      one_below = below second first (back first second near);
      two_below = below first second near;
      one_is = one_is;
      two_is = two_is;
      differ = apart first second near;
      only = λ z _ t. pair_either first second z t;
    });
    start = near;
    first_seen = one_is;
    second_seen = two_is;
    from_seen = one_is;
    at_seen = two_is;
    inner = λ z y t nf ns _. absurd (⊎_elim (λ (e : z ≡ first). nf e) (λ (e : z ≡ second). ns e) (pair_either first second z t));
    lone = λ z t nf near. absurd (⊎_elim (λ (e : z ≡ first). nf e) (λ (e : z ≡ second). apart z second near e) (pair_either first second z t));
    once = λ _. refl;
  }
    where
      one_is : pair first second first ≡ true
      one_is = or_first (eqb first second) (eq-eqb first first refl)

      two_is : pair first second second ≡ true
      two_is = or_second (eqb second first) (eq-eqb second second refl)

  module _ {first second from at k : ℕ} {seen : ℕ → Bool} (w : Trail n Near first second from at k seen) {y : ℕ} (o : Next Near from at y) where
    -- what is near to where the walk is
    ahead : (P : ℕ → Type 0) → P from → P y → (u : ℕ) → Near at u → P u
    ahead P pf po u near = ⊎_elim (λ (e : u ≡ from). subst P (sym e) pf) (λ ne. subst P (sym (o.only u near ne)) po) (same_or_not u from)

    -- the next number is new or the first
    trail_new : y ≢ first → seen y ≡ false
    trail_new nf = is_false (seen y) (λ t. o.on (w.lone y t nf (back at y o.near)))

    pub trail_more : y ≢ first → Trail n Near first second at y (k + 1) (with seen y)
    trail_more nf = record {
      counted = omega (arith, count_with n seen y (below at y o.near) (trail_new nf), w.counted);
      start = w.start;
      first_seen = with_old seen y first w.first_seen;
      second_seen = with_old seen y second w.second_seen;
      from_seen = with_old seen y at w.at_seen;
      at_seen = with_new seen y;
      inner = λ z u t f nx near. with_it z u f near (⊎_elim (λ t. t) (λ (e : z ≡ y). absurd (nx e)) (with_either seen y z t)) (same_or_not z at);
      lone = λ z t f near. ⊎_elim (λ t. only_at z f near t (same_or_not z at)) (λ (e : z ≡ y). absurd (apart z y near e)) (with_either seen y z t);
      once = λ (e : y ≡ second). absurd (not_both w.second_seen (ap seen (sym e) ∙ trail_new nf));
    }
      where
        with_it : (z u : ℕ) → z ≢ first → Near z u → seen z ≡ true → (z ≡ at) ⊎ (z ≢ at) → with seen y u ≡ true
        with_it z u f near t (inl e) = ahead (λ i. with seen y i ≡ true) (with_old seen y from w.from_seen) (with_new seen y) u (subst (λ i. Near i u) e near)
        with_it z u f near t (inr ne) = with_old seen y u (w.inner z u t f ne near)

        only_at : (z : ℕ) → z ≢ first → Near z y → seen z ≡ true → (z ≡ at) ⊎ (z ≢ at) → z ≡ at
        only_at z f near t (inl e) = e
        only_at z f near t (inr ne) = absurd (not_both (w.inner z y t f ne near) (trail_new nf))

    -- where the first is next, what is near a number that was seen was seen
    pub trail_closes : y ≡ first → ExactlyTwo n (Near first) → (z u : ℕ) → seen z ≡ true → Near z u → seen u ≡ true
    trail_closes home two z u t near = go (same_or_not z first) (same_or_not z at)
      where
        near_first : Near first at
        near_first = back at first (subst (Near at) home o.near)

        other : TheOther n (Near first) second
        other = the_other two second (below first second w.start) w.start

        last : at ≡ other.other
        last = other.only at (below first at near_first) near_first (λ (e : at ≡ second). o.on (home ∙ sym (w.once e)))

        go : (z ≡ first) ⊎ (z ≢ first) → (z ≡ at) ⊎ (z ≢ at) → seen u ≡ true
        go (inl e) _ =
            let near' = subst (λ i. Near i u) e near in
            ⊎_elim (λ (q : u ≡ second). ap seen q ∙ w.second_seen)
            (λ ne. ap seen (other.only u (below first u near') near' ne ∙ sym last) ∙ w.at_seen) (same_or_not u second)
        go (inr nf) (inl e) = ahead (λ i. seen i ≡ true) w.from_seen (ap seen home ∙ w.first_seen) u (subst (λ i. Near i u) e near)
        go (inr nf) (inr ne) = w.inner z u t nf ne near

  module _ {On : ℕ → Type 0} {first second : ℕ} (start : Near first second) (on : On second) where
    pub walk_behind : {k from at : ℕ} → Walk Near On first second k from at → Behind n Near On first second from at k
    walk_behind (begins z f s) = rw (z, f, s) (record {
      seen = pair first second;
      trail = trail_begins first second start;
      all_on = λ z t nf. ⊎_elim (λ (e : z ≡ first). absurd (nf e)) (λ (e : z ≡ second). subst On (sym e) on) (pair_either first second z t);
    })
    walk_behind (goes {y = y} w o nf oy m) =
        let b = walk_behind w in
        rw m (record {
          seen = with b.seen y;
          trail = trail_more b.trail o nf;
          all_on = λ z t ne. ⊎_elim (λ t. b.all_on z t ne) (λ (e : z ≡ y). subst On (sym e) oy) (with_either b.seen y z t);
        })

    pub walk_few : {k from at : ℕ} → Walk Near On first second k from at → k + 2 ≤ n
    walk_few w = trail_few (walk_behind w).trail

    -- where the first is next, every number that is joined to where the walk is is `On`, but perhaps the first
    pub walk_whole : {Member : ℕ → Type 0} {k at z : ℕ} → Going Near On first second k at first → ExactlyTwo n (Near first) → Chain Member Near at z → z ≢ first → On z
    walk_whole {z = z} g two joined ne =
        let b = walk_behind g.walk in
        b.all_on z (chain_passes (λ u. b.seen u ≡ true) (λ u v _ _ near t. trail_closes b.trail g.next refl two u v t near) joined b.trail.at_seen) ne
