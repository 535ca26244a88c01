-- A flood over the numbers below n: from x one goes to `target x c` for each way c that `want x c` lets pass, c below `ways`.
-- What is reached from the start is stamped with k and stands in a queue; turn i takes way i % ways of the number that stands at i / ways.
use Rattle.std.specs.Prelude.{◌≡◌, ◌⊎◌, ◌≢◌, Bool, true, false, not, ◌&&◌, cond, List, ℕ, ◌+◌, ◌*◌, ◌/◌, ◌%◌, ◌≤◌, ◌<◌, get_or, set}
use Rattle.std.proofs.Math.Path.{sym, ap}
use Rattle.std.proofs.Common.{◌∙◌, subst, inl, inr, mul-suc, add-one, get_or-set_same, get_or-set_other, below_more}
use Rattle.std.proofs.Math.Logic.{⊎_elim}
use native.Mathlib.Omega.{arith}
use Rattle.std.proofs.Math.Dec.{eqb}
use Rattle.std.proofs.Math.ListN.{length, length-set}
use borrow.Author.Tests.{eqb-true, eq-eqb, ne_eqb, not-true}
use Rattle.rules.specs.Below.{count, pick}
use Rattle.rules.specs.Joined.{connected}
use Rattle.rules.specs.Laws.Truth.{true_or_false, not_both, same_test, same_or_not, and_first, and_second, and_both}
use Rattle.rules.specs.Laws.Count.{without, count_without, without_is, is_without, count_same, count_le_same, count_not, none_count}
use Rattle.rules.specs.Laws.Places.{row_of, within_row, row_below, place_below}
use Rattle.rules.specs.Laws.Joined.{Chain, chain_ends, chain_join, chain_back, chain_passes, Picked, picked_chain, chain_picked}
use Rattle.rules.specs.Job.{most_rows}

unfoldable pub stamped : ℕ → List ℕ → ℕ → Bool
stamped k stamp y = eqb (get_or stamp y 0) k

-- ---- one more stamp

module _ (k : ℕ) (stamp : List ℕ) (y : ℕ) (room : y < length stamp) where
  stamp_same : stamped k (set stamp y k) y ≡ true
  unfolding stamped
  stamp_same = eq-eqb (get_or (set stamp y k) y 0) k (get_or-set_same stamp y k 0 room)

  stamp_other : (z : ℕ) → z ≢ y → stamped k (set stamp y k) z ≡ stamped k stamp z
  unfolding stamped
  stamp_other z ne = ap (λ (v : ℕ). eqb v k) (get_or-set_other stamp y z k 0 ne)

  stamp_keeps : (z : ℕ) → stamped k stamp z ≡ true → stamped k (set stamp y k) z ≡ true
  stamp_keeps z t = ⊎_elim (λ (e : z ≡ y). rw e stamp_same) (λ ne. stamp_other z ne ∙ t) (same_or_not z y)

  stamp_either : (z : ℕ) → stamped k (set stamp y k) z ≡ true → (z ≡ y) ⊎ (stamped k stamp z ≡ true)
  stamp_either z t = ⊎_elim inl (λ ne. inr (sym (stamp_other z ne) ∙ t)) (same_or_not z y)

  stamp_counted : (n : ℕ) → y < n → stamped k stamp y ≡ false → count n (stamped k (set stamp y k)) ≡ count n (stamped k stamp) + 1
  stamp_counted n l off =
      count_without n (stamped k (set stamp y k)) y l stamp_same
      ∙ ap (λ (m : ℕ). m + 1) (count_same n (without (stamped k (set stamp y k)) y) (stamped k stamp) (λ z _.
      same_test (without (stamped k (set stamp y k)) y z) (stamped k stamp z)
      (λ w. let (t, ne) = without_is (stamped k (set stamp y k)) y z w in sym (stamp_other z ne) ∙ t)
      (λ t. is_without (stamped k (set stamp y k)) y z (stamp_keeps z t) (λ (e : z ≡ y). not_both t (ap (stamped k stamp) e ∙ off)))))

  stamp_low : (z : ℕ) → get_or stamp z 0 ≤ k → get_or (set stamp y k) z 0 ≤ k
  stamp_low z l = ⊎_elim (λ (e : z ≡ y). rw (e, get_or-set_same stamp y k 0 room) (omega arith)) (λ ne. rw (get_or-set_other stamp y z k 0 ne) l) (same_or_not z y)

-- ---- the flood

module _ {ways : ℕ} (pos : 0 < ways) (n k start : ℕ) (want : ℕ → ℕ → Bool) (target : ℕ → ℕ → ℕ) (Good : ℕ → Type 0) where
  -- before turn i
  pub record Flooding (stamp queue : List ℕ) (i tail : ℕ) : Type 0 where
    pub stamps : length stamp ≡ most_rows
    pub places : length queue ≡ most_rows
    pub within : i ≤ ways * tail
    pub begun : stamped k stamp start ≡ true
    -- as many are stamped as stand in the queue
    pub counted : tail ≡ count n (stamped k stamp)
    pub inside : (q : ℕ) → q < tail → (get_or queue q 0 < n) × Good (get_or queue q 0)
    pub place : (y : ℕ) → y < n → stamped k stamp y ≡ true → (q : ℕ) × (q < tail) × (get_or queue q 0 ≡ y)
    -- where the turns so far could go is stamped
    pub done : (j : ℕ) → j < i → want (get_or queue (j / ways) 0) (j % ways) ≡ true → stamped k stamp (target (get_or queue (j / ways) 0) (j % ways)) ≡ true
    pub low : (y : ℕ) → y < n → get_or stamp y 0 ≤ k

  -- once no turn is left
  pub record Flooded (stamp : List ℕ) (reached : ℕ) : Type 0 where
    pub begun : stamped k stamp start ≡ true
    pub counted : reached ≡ count n (stamped k stamp)
    pub good : (y : ℕ) → y < n → stamped k stamp y ≡ true → Good y
    pub closed : (y c : ℕ) → y < n → c < ways → stamped k stamp y ≡ true → want y c ≡ true → stamped k stamp (target y c) ≡ true
    pub low : (y : ℕ) → y < n → get_or stamp y 0 ≤ k

  pub flood_ends : {stamp queue : List ℕ} {i tail : ℕ} → Flooding stamp queue i tail → ways * tail ≤ i → Flooded stamp tail
  flood_ends {stamp} {queue} {i} {tail} f l = record {
    begun = f.begun;
    counted = f.counted;
    good = λ y m t. let (q, lq, e) = f.place y m t in subst Good e (f.inside q lq).1;
    closed = λ y c m lc t w. let (q, lq, e) = f.place y m t in at q lq y c lc e w;
    low = f.low;
  }
    where
      at : (q : ℕ) → q < tail → (y c : ℕ) → c < ways → get_or queue q 0 ≡ y → want y c ≡ true → stamped k stamp (target y c) ≡ true
      at q lq y c lc e =
          rw (row_of pos q c lc, within_row pos q c lc, e) at (f.done (ways * q + c) (omega (arith, f.within, l, place_below pos tail q c lq lc)))

  pub flood_begins : (stamp queue : List ℕ) → start < n → n ≤ most_rows → Good start → length stamp ≡ most_rows → length queue ≡ most_rows
      → ((y : ℕ) → y < n → get_or stamp y 0 < k) → Flooding (set stamp start k) (set queue 0 start) 0 1
  unfolding stamped
  flood_begins stamp queue l few good ls lq fresh = record {
    stamps = length-set stamp start k ∙ ls;
    places = length-set queue 0 start ∙ lq;
    within = omega arith;
    begun = stamp_same k stamp start room;
    counted = sym (stamp_counted k stamp start room n l (off start l) ∙ ap (λ (m : ℕ). m + 1) (none_count n (stamped k stamp) off));
    inside = λ q m. let first : q ≡ 0 = omega arith in rw (first, here) (l, good);
    place = λ y m t. ⊎_elim (λ (e : y ≡ start). (0, omega arith, here ∙ sym e)) (λ t. absurd (not_both t (off y m))) (stamp_either k stamp start room y t);
    done = λ j m. absurd (omega arith);
    low = λ y m. stamp_low k stamp start room y (omega (arith, fresh y m));
  }
    where
      room : start < length stamp
      room = omega arith

      here : get_or (set queue 0 start) 0 0 ≡ start
      here = get_or-set_same queue 0 start 0 (omega arith)

      off : (y : ℕ) → y < n → stamped k stamp y ≡ false
      off y m = ne_eqb (get_or stamp y 0) k (λ e. omega (arith, fresh y m))

  -- a place in the queue for what is not stamped yet
  pub flood_room : {stamp queue : List ℕ} {i tail : ℕ} → Flooding stamp queue i tail → (y : ℕ) → y < n → stamped k stamp y ≡ false → tail < n
  flood_room {stamp} f y l off =
      omega (arith, f.counted, count_not n (stamped k stamp), count_without n (λ z. not (stamped k stamp z)) y l (ap not off))

  module _ {stamp queue : List ℕ} {i tail : ℕ} (f : Flooding stamp queue i tail) (l : i < ways * tail) where
    -- a turn that finds nothing new
    flood_known : {x y : ℕ} → x ≡ get_or queue (i / ways) 0 → y ≡ target x (i % ways) → (want x (i % ways) ≡ true → stamped k stamp y ≡ true) → Flooding stamp queue (i + 1) tail
    flood_known ex ey known = record {
      stamps = f.stamps;
      places = f.places;
      within = omega arith;
      begun = f.begun;
      counted = f.counted;
      inside = f.inside;
      place = f.place;
      done = below_more (λ j. want (get_or queue (j / ways) 0) (j % ways) ≡ true → stamped k stamp (target (get_or queue (j / ways) 0) (j % ways)) ≡ true) i f.done
          (rw (← ex, ← ey) known);
      low = f.low;
    }

    -- a turn that finds y
    flood_fresh : {x y : ℕ} → x ≡ get_or queue (i / ways) 0 → y ≡ target x (i % ways) → n ≤ most_rows → y < n → stamped k stamp y ≡ false → Good y
        → Flooding (set stamp y k) (set queue tail y) (i + 1) (tail + 1)
    flood_fresh {x} {y} ex ey few ly off good = record {
      stamps = length-set stamp y k ∙ f.stamps;
      places = length-set queue tail y ∙ f.places;
      within = omega (arith, more);
      begun = stamp_keeps k stamp y room start f.begun;
      counted = sym (stamp_counted k stamp y room n ly off ∙ ap (λ (m : ℕ). m + 1) (sym f.counted));
      inside = below_more (λ q. (get_or (set queue tail y) q 0 < n) × Good (get_or (set queue tail y) q 0)) tail
          (λ q m. rw (before q m) (f.inside q m)) (rw here (ly, good));
      place = λ z m t.
          ⊎_elim (λ (e : z ≡ y). (tail, omega arith, here ∙ sym e)) (λ t. let (q, lq, e) = f.place z m t in (q, omega arith, before q lq ∙ e)) (stamp_either k stamp y room z t);
      done = below_more (λ j. want (get_or (set queue tail y) (j / ways) 0) (j % ways) ≡ true → stamped k (set stamp y k) (target (get_or (set queue tail y) (j / ways) 0) (j % ways)) ≡ true) i
          (λ j m. rw (before (j / ways) (row_below pos tail j (omega (arith, l)))) (λ w. stamp_keeps k stamp y room (target (get_or queue (j / ways) 0) (j % ways)) (f.done j m w)))
          (rw (before (i / ways) (row_below pos tail i l), ← ex, ← ey) (λ _. stamp_same k stamp y room));
      low = λ z m. stamp_low k stamp y room z (f.low z m);
    }
      where
        more : ways * (tail + 1) ≡ ways * tail + ways
        more = rw add-one (mul-suc ways tail)

        room : y < length stamp
        room = omega (arith, f.stamps)

        here : get_or (set queue tail y) tail 0 ≡ y
        here = get_or-set_same queue tail y 0 (omega (arith, f.places, flood_room f y ly off))

        before : (q : ℕ) → q < tail → get_or (set queue tail y) q 0 ≡ get_or queue q 0
        before q m = get_or-set_other queue tail q y 0 (λ (e : q ≡ tail). omega arith)

    pub flood_turn : {x y : ℕ} → x ≡ get_or queue (i / ways) 0 → y ≡ target x (i % ways) → n ≤ most_rows → y < n → (want x (i % ways) ≡ true → Good y)
        → {fresh : Bool} {stamp' queue' : List ℕ} {tail' : ℕ} → fresh ≡ (want x (i % ways) && not (stamped k stamp y))
        → stamp' ≡ cond fresh (set stamp y k) stamp → queue' ≡ cond fresh (set queue tail y) queue → tail' ≡ cond fresh (tail + 1) tail → Flooding stamp' queue' (i + 1) tail'
    flood_turn {x} {y} ex ey few ly good {fresh} {stamp'} {queue'} {tail'} ef es eq et = ⊎_elim found known (true_or_false fresh)
      where
        found : fresh ≡ true → Flooding stamp' queue' (i + 1) tail'
        found t =
            let both : (want x (i % ways) && not (stamped k stamp y)) ≡ true = sym ef ∙ t in
            rw (es, eq, et, t) (flood_fresh ex ey few ly (not-true (stamped k stamp y) (and_second (want x (i % ways)) (not (stamped k stamp y)) both))
            (good (and_first (want x (i % ways)) (not (stamped k stamp y)) both)))

        known : fresh ≡ false → Flooding stamp' queue' (i + 1) tail'
        known off =
            rw (es, eq, et, off) (flood_known ex ey (λ w. ⊎_elim (λ t. t) (λ new. absurd (not_both (and_both w (ap not new)) (sym ef ∙ off))) (true_or_false (stamped k stamp y))))

-- ---- what a flood tells of connectedness

-- Each step from a member to a member is a way of the flood.
module _ {ways : ℕ} (pos : 0 < ways) (n k start : ℕ) (want : ℕ → ℕ → Bool) (target : ℕ → ℕ → ℕ) (member : ℕ → Bool) (next : ℕ → ℕ → Bool)
    (back : (x y : ℕ) → Picked n member x → Picked n member y → next x y ≡ true → next y x ≡ true)
    (way : (x y : ℕ) → Picked n member x → Picked n member y → next x y ≡ true → (c : ℕ) × (c < ways) × (want x c ≡ true) × (target x c ≡ y)) where
  -- As many are reached as are members, exactly if the members are connected.
  pub joined_by_count : (stamp : List ℕ) (reached : ℕ) → Picked n member start
      → Flooded pos n k start want target (Chain (Picked n member) (λ x y. next x y ≡ true) start) stamp reached → eqb reached (count n member) ≡ connected next (pick n member)
  joined_by_count stamp reached begin f =
      same_test (eqb reached (count n member)) (connected next (pick n member))
      (λ e. joined (count_le_same n (stamped k stamp) member within (sym f.counted ∙ eqb-true reached (count n member) e)))
      (λ j. eq-eqb reached (count n member) (f.counted ∙ count_same n (stamped k stamp) member
      (λ y l. same_test (stamped k stamp y) (member y) (within y l) (λ h. passed j y (l, h)))))
    where
      within : (y : ℕ) → y < n → stamped k stamp y ≡ true → member y ≡ true
      within y l s = (chain_ends (f.good y l s)).1

      joined : ((y : ℕ) → y < n → member y ≡ true → stamped k stamp y ≡ true) → connected next (pick n member) ≡ true
      joined each =
          chain_picked next n member (λ x y (lx, hx) (ly, hy). chain_join (chain_back back (f.good x lx (each x lx hx))) (f.good y ly (each y ly hy)))

      passed : connected next (pick n member) ≡ true → (y : ℕ) → Picked n member y → stamped k stamp y ≡ true
      passed j y held =
          chain_passes (λ z. stamped k stamp z ≡ true)
          (λ x z px pz e s. let (c, lc, w, f') = way x z px pz e in subst (λ (u : ℕ). stamped k stamp u ≡ true) f' (f.closed x c px.0 lc s w))
          (picked_chain next n member back j start y begin held) f.begun
