-- Edges between numbers below n, followed from end to end: each end that was turned at has exactly two. Where the first end is next, the edges
-- form one ring exactly if those turned at are all the ends there are.
use Rattle.std.specs.Prelude.{◌≡◌, refl, ◌↔◌, ◌≢◌, Bool, true, false, ℕ, zero, suc, ◌+◌, ◌≤◌, ◌<◌}
use Rattle.std.proofs.Common.{sym, ap, ◌∙◌, ⊎_elim, zero-le, le_refl, arith}
use Rattle.std.proofs.Math.Nat.{le_step}
use Rattle.rules.specs.Below.{bit, sum, count}
use Rattle.rules.specs.Laws.Truth.{true_or_false, not_both, is_false, same_or_not}
use Rattle.rules.specs.Laws.Below.{below_suc}
use Rattle.rules.specs.Laws.Count.{sum_same, sum_add, sum_le, bit_one, bit_zero, none_count, count_two, count_without, ExactlyTwo}
use Rattle.rules.specs.Laws.Joined.{Chain, stay, step, chain_join, chain_back, chain_passes}
use Rattle.rules.specs.Reading.Ring.{End, OneRing, ends_joined, joined_ends}
use Rattle.round.specs.Trail.{Trail, Next, trail_begins, trail_more, trail_few, trail_closes, with, with_either, pair, pair_either}
use Rattle.rings.specs.Ends.{ends_of}

-- sums that are the same, the parts of one nowhere more than those of the other
pub sum_le_same : (n : ℕ) (f g : ℕ → ℕ) → ((k : ℕ) → k < n → f k ≤ g k) → sum n f ≡ sum n g → (k : ℕ) → k < n → f k ≡ g k
unfolding sum
sum_le_same zero f g le e k l = absurd (omega arith)
sum_le_same (suc n) f g le e k l =
    let rest = sum_le n f g (λ k l. le k (le_step l)) in
    let here = le n (le_refl (suc n)) in
    below_suc (λ k. f k ≡ g k) n (sum_le_same n f g (λ k l. le k (le_step l)) (omega arith)) (omega arith) k l

abbrev pub Far : (ℕ → ℕ → Bool) → ℕ → ℕ → Type 0
Far far a b = far a b ≡ true

-- an edge between numbers below n
abbrev pub Joins : ℕ → (ℕ → ℕ → Bool) → ℕ → ℕ → Type 0
Joins n far a b = (a < n) × (b < n) × (far a b ≡ true)

-- The way went from `first` to `second` and on, and came from `from` to `at`, the end ahead. As many ends as `met` says were turned at: all
-- that were seen but for the one ahead.
pub record Following (n : ℕ) (far : ℕ → ℕ → Bool) (first second from at met : ℕ) (seen : ℕ → Bool) : Type 0 where
  pub steps : ℕ
  pub turned : met ≡ steps + 1
  pub trail : Trail n (Joins n far) first second from at steps seen
  pub twos : (z : ℕ) → seen z ≡ true → z ≢ at → count n (far z) ≡ 2
  pub joined : (z : ℕ) → seen z ≡ true → Chain (End n (Far far)) (Far far) first z

module _ (n : ℕ) {far : ℕ → ℕ → Bool} (both_ways : (a b : ℕ) → far a b ≡ far b a) (loopless : (a b : ℕ) → far a b ≡ true → a ≢ b) where
  far_back : (a b : ℕ) → Far far a b → Far far b a
  far_back a b e = both_ways b a ∙ e

  joins_back : (a b : ℕ) → Joins n far a b → Joins n far b a
  joins_back a b (la, lb, e) = (lb, la, far_back a b e)

  joins_apart : (a b : ℕ) → Joins n far a b → a ≢ b
  joins_apart a b (_, _, e) = loopless a b e

  joins_below : (a b : ℕ) → Joins n far a b → b < n
  joins_below a b (_, lb, _) = lb

  joins_two : (a : ℕ) → a < n → count n (far a) ≡ 2 → ExactlyTwo n (Joins n far a)
  joins_two a l e =
      let x = count_two n (far a) e in
      record {
        one = x.one;
        two = x.two;
        one_below = x.one_below;
        two_below = x.two_below;
        one_is = (l, x.one_below, x.one_is);
        two_is = (l, x.two_below, x.two_is);
        differ = x.differ;
        only = λ k m (_, _, q). x.only k m q;
      }

  pub follow_begins : (first second : ℕ) → Joins n far first second → count n (far first) ≡ 2 → Following n far first second first second 1 (pair first second)
  follow_begins first second near two = record {
    steps = 0;
    turned = refl;
    trail = trail_begins joins_back joins_apart joins_below first second near;
    twos = λ z s ne. ⊎_elim (λ (e : z ≡ first). ap (λ i. count n (far i)) e ∙ two) (λ (e : z ≡ second). absurd (ne e)) (pair_either first second z s);
    joined = λ z s. ⊎_elim (λ (e : z ≡ first). stay (second, near) (sym e))
        (λ (e : z ≡ second). step (second, near) near.2 (stay (first, joins_back first second near) (sym e))) (pair_either first second z s);
  }

  -- one turns at the end ahead, which has two edges, and y is the next
  module _ {first second from at met : ℕ} {seen : ℕ → Bool} (w : Following n far first second from at met seen) (two : count n (far at) ≡ 2) {y : ℕ} (o : Next (Joins n far) from at y) where
    all_two : (z : ℕ) → seen z ≡ true → count n (far z) ≡ 2
    all_two z s = ⊎_elim (λ (e : z ≡ at). ap (λ i. count n (far i)) e ∙ two) (λ ne. w.twos z s ne) (same_or_not z at)

    pub follow_few : met + 1 ≤ n
    follow_few = omega (arith, trail_few w.trail, w.turned)

    pub follow_more : y ≢ first → Following n far first second at y (met + 1) (with seen y)
    follow_more nf = record {
      steps = w.steps + 1;
      turned = ap (λ (k : ℕ). k + 1) w.turned;
      trail = trail_more joins_back joins_apart joins_below w.trail o nf;
      twos = λ z s ne. ⊎_elim (λ s. all_two z s) (λ (e : z ≡ y). absurd (ne e)) (with_either seen y z s);
      joined = λ z s. ⊎_elim (λ s. w.joined z s)
          (λ (e : z ≡ y). chain_join (w.joined at w.trail.at_seen) (step (y, o.near) o.near.2 (stay (at, joins_back at y o.near) (sym e)))) (with_either seen y z s);
    }

    -- the first end is next
    module _ (home : y ≡ first) where
      abbrev twice : ℕ → ℕ
      twice a = bit (seen a) + bit (seen a)

      twice_sum : sum n twice ≡ (met + 1) + (met + 1)
      unfolding count
      twice_sum = sum_add n (λ a. bit (seen a)) (λ a. bit (seen a)) ∙ omega (arith, w.trail.counted, w.turned)

      twice_is : (a : ℕ) → (seen a ≡ false → count n (far a) ≡ 0) → twice a ≡ count n (far a)
      twice_is a off = ⊎_elim (λ s. rw (all_two a s, bit_one s)) (λ s. rw (off s, bit_zero s)) (true_or_false (seen a))

      twice_le : (a : ℕ) → twice a ≤ count n (far a)
      twice_le a = ⊎_elim (λ s. rw (all_two a s, bit_one s) (le_refl 2)) (λ s. rw (bit_zero s) zero-le) (true_or_false (seen a))

      pub ring_closes : ((met + 1) + (met + 1) ≡ ends_of n far) ↔ OneRing n (Far far)
      ring_closes = (forth, back)
        where
          first_below : first < n
          first_below = w.trail.start.0

          forth : (met + 1) + (met + 1) ≡ ends_of n far → OneRing n (Far far)
          forth e =
              joined_ends n (Far far) far_back (λ a b (la, lb, f). count_two n (far a) (all_two a (seen_end a b la lb f)))
              (λ a c (b, (la, lb, f)) (d, (lc, ld, g)). chain_join (chain_back (λ x y _ _ h. far_back x y h) (w.joined a (seen_end a b la lb f))) (w.joined c (seen_end c d lc ld g)))
            where
              seen_end : (a b : ℕ) → a < n → b < n → Far far a b → seen a ≡ true
              seen_end a b la lb f =
                  ⊎_elim (λ s. s) (λ s. absurd (omega (arith, sum_le_same n twice (λ a. count n (far a)) (λ a _. twice_le a) (twice_sum ∙ e) a la, count_without n (far a) b lb f, bit_zero s)))
                  (true_or_false (seen a))

          back : OneRing n (Far far) → (met + 1) + (met + 1) ≡ ends_of n far
          back ring =
              sym twice_sum
              ∙ sum_same n twice (λ a. count n (far a)) (λ a l. twice_is a (λ off. none_count n (far a) (λ b m. is_false (far a b) (λ f. not_both (reached a (b, (l, m, f))) off))))
            where
              reached : (a : ℕ) → End n (Far far) a → seen a ≡ true
              reached a e =
                  chain_passes (λ z. seen z ≡ true) (λ x z (_, ex) (_, ez) f s.
                  trail_closes joins_back joins_apart joins_below w.trail o home (joins_two first first_below (all_two first w.trail.first_seen)) x z s (ex.0, ez.0, f))
                  (ends_joined n (Far far) far_back ring first a (second, w.trail.start) e) w.trail.first_seen
