-- The tallies of a row's ids, each one up or one down.
use Rattle.std.specs.Prelude.{◌≡◌, ◌≢◌, Bool, true, false, length, get_or}
use Rattle.std.proofs.Math.Path.{refl, sym, ap}
use Rattle.std.proofs.Common.{◌∙◌, add-zero, arith, get_or-append-add}
use Rattle.std.proofs.Math.Logic.{⊎_elim}
use Rattle.std.proofs.Math.Bool.{cond, or-false}
use mathlib.Core.List.{List, ◌++◌}
use Prim.Native.Nat.{ℕ, zero, suc, ◌+◌, ◌-◌, ◌≤◌, ◌<◌}
use Rattle.std.proofs.Math.Numerals.{add-one}
use Rattle.std.proofs.Math.Dec.{eqb}
use Rattle.std.proofs.Math.ListN.{set, length-set, get_or-append}
use Rattle.std.proofs.lemmas.List.{set-append_left}
use Rattle.std.proofs.Math.Seq.{get_or-set_other}
use borrow.Author.Tests.{eq-eqb, ne_eqb}
use Rattle.rules.specs.Below.{any, bit, tabulate}
use Rattle.rules.specs.Table.{Table, holds}
use Rattle.rules.specs.Job.{most_rows}
use Rattle.rules.specs.Laws.Truth.{same_or_not}
use Rattle.rules.specs.Laws.Below.{none_any}
use Rattle.rules.specs.Laws.Count.{bit_one, bit_zero}
use Rattle.rules.specs.Laws.Lists.{tabulate_length, tabulate_at, tabulate_same, tabulate_set, set_append_add}
use Rattle.rules.specs.Reading.Rows.{Rising, IdsBelow, ids_differ}

-- so much more, or so much less
abbrev pub shifted : Bool → ℕ → ℕ → ℕ
shifted up n by = cond up (n + by) (n - by)

-- one word of a list, one up or one down
unfoldable pub step_at : Bool → List ℕ → ℕ → List ℕ
step_at up words place = set words place (shifted up (get_or words place 0) 1)

-- the words of the first c ids of row r, of those that begin at a place
unfoldable pub step_row : Table → ℕ → Bool → ℕ → ℕ → List ℕ → List ℕ
step_row t first up r zero words = words
step_row t first up r (suc c) words = step_at up (step_row t first up r c words) (first + t.id r c)

-- a word that is there, and that can step
pub record Steppable (up : Bool) (words : List ℕ) (place : ℕ) : Type 0 where
  pub there : place < length words
  pub most : up ≡ true → get_or words place 0 ≤ most_rows
  pub least : up ≡ false → 0 < get_or words place 0

-- so is the word of each id of row r, and these are four words
pub record RowSteppable (t : Table) (first : ℕ) (up : Bool) (r : ℕ) (words : List ℕ) : Type 0 where
  pub rises : Rising t r
  pub each : (c : ℕ) → c < t.corners → Steppable up words (first + t.id r c)

-- ---- corner by corner

module _ (t : Table) (first : ℕ) (up : Bool) (r : ℕ) (words : List ℕ) where
  step_length : (c : ℕ) → length (step_row t first up r c words) ≡ length words
  unfolding step_row step_at
  step_length zero = refl
  step_length (suc c) = length-set (step_row t first up r c words) (first + t.id r c) _ ∙ step_length c

  step_more : (c : ℕ) → step_row t first up r (c + 1) words ≡ step_at up (step_row t first up r c words) (first + t.id r c)
  unfolding step_row
  step_more c = rw add-one

  -- the word of a later id is as it was
  later_kept : Rising t r → (c k : ℕ) → c ≤ k → k < t.corners → get_or (step_row t first up r c words) (first + t.id r k) 0 ≡ get_or words (first + t.id r k) 0
  unfolding step_row step_at
  later_kept rises zero k l m = refl
  later_kept rises (suc c) k l m =
      get_or-set_other (step_row t first up r c words) (first + t.id r c) (first + t.id r k) _ 0 (λ (e : first + t.id r k ≡ first + t.id r c).
      ids_differ t rises {i = k} {j = c} m (omega arith) (λ (q : k ≡ c). omega arith) (omega arith))
      ∙ later_kept rises c k (omega arith) m

  still_steppable : RowSteppable t first up r words → (c : ℕ) → c < t.corners → Steppable up (step_row t first up r c words) (first + t.id r c)
  still_steppable s c l =
      let kept = later_kept s.rises c c (omega arith) l in
      record {
        there = rw (step_length c) (s.each c l).there;
        most = λ on. rw kept ((s.each c l).most on);
        least = λ off. rw kept ((s.each c l).least off);
      }

-- a turn of the loop over a row's corners
module _ {t : Table} {first : ℕ} {up : Bool} {r : ℕ} {words₀ : List ℕ} (s : RowSteppable t first up r words₀) (c : ℕ) {words : List ℕ} (so_far : words ≡ step_row t first up r c words₀) where
  module _ (l : c < t.corners) {id : ℕ} (is : id ≡ t.id r c) where
    pub turn_steppable : Steppable up words (first + id)
    turn_steppable = rw (so_far, is) (still_steppable t first up r words₀ s c l)

    pub turn_stepped : {words' : List ℕ} → words' ≡ step_at up words (first + id) → words' ≡ step_row t first up r (c + 1) words₀
    turn_stepped e = e ∙ rw (so_far, is) (sym (step_more t first up r words₀ c))

-- ---- a word for each id, somewhere in a list

-- another word at an id
put_id : (front back : List ℕ) (n : ℕ) (f : ℕ → ℕ) (i x : ℕ) → i < n
    → set (front ++ (tabulate n f ++ back)) (length front + i) x ≡ front ++ (tabulate n (λ v. cond (eqb i v) x (f v)) ++ back)
put_id front back n f i x l =
    set_append_add front (tabulate n f ++ back) i x
    ∙ ap (λ (zs : List ℕ). front ++ zs) (set-append_left (tabulate n f) back i x (rw (tabulate_length n f) l) ∙ ap (λ (zs : List ℕ). zs ++ back) (tabulate_set n f i x l))

at_id : (front back : List ℕ) (n : ℕ) (f : ℕ → ℕ) (i : ℕ) → i < n → get_or (front ++ (tabulate n f ++ back)) (length front + i) 0 ≡ f i
at_id front back n f i l =
    get_or-append-add front (tabulate n f ++ back) i 0 ∙ get_or-append (tabulate n f) back 0 i (rw (tabulate_length n f) l) ∙ tabulate_at n f 0 i l

shifted_none : (up : Bool) (n : ℕ) → shifted up n 0 ≡ n
shifted_none true n = add-zero n
shifted_none false n = omega arith

module _ (t : Table) (up : Bool) (r n : ℕ) (rises : Rising t r) (below : IdsBelow t n r) (f : ℕ → ℕ) where
  -- v is one of the first c ids
  among : ℕ → ℕ → Bool
  among c v = any c (λ k. eqb (t.id r k) v)

  -- the words when c ids have stepped
  after : ℕ → ℕ → ℕ
  after c v = shifted up (f v) (bit (among c v))

  not_yet : (c : ℕ) → c < t.corners → among c (t.id r c) ≡ false
  unfolding among
  not_yet c l = none_any c (λ k. eqb (t.id r k) (t.id r c)) (λ k m. ne_eqb (t.id r k) (t.id r c) (ids_differ t rises (omega arith) l (λ (e : k ≡ c). omega arith)))

  one_more : (c : ℕ) → c < t.corners → (v : ℕ) → cond (eqb (t.id r c) v) (shifted up (after c (t.id r c)) 1) (after c v) ≡ after (suc c) v
  unfolding after among any
  one_more c l v = ⊎_elim here there (same_or_not (t.id r c) v)
    where
      here : t.id r c ≡ v → cond (eqb (t.id r c) v) (shifted up (after c (t.id r c)) 1) (after c v) ≡ after (suc c) v
      here e = rw (← e, eq-eqb (t.id r c) (t.id r c) refl, not_yet c l, bit_one {b = true} refl, bit_zero {b = false} refl, shifted_none up (f (t.id r c)))

      there : t.id r c ≢ v → cond (eqb (t.id r c) v) (shifted up (after c (t.id r c)) 1) (after c v) ≡ after (suc c) v
      there ne = rw (ne_eqb (t.id r c) v ne, or-false (among c v))

  module _ (front back : List ℕ) where
    area : ℕ → List ℕ
    area c = front ++ (tabulate n (after c) ++ back)

    stepped_to : (c : ℕ) → c ≤ t.corners → step_row t (length front) up r c (area 0) ≡ area c
    unfolding step_row step_at area
    stepped_to zero l = refl
    stepped_to (suc c) l =
        let here = below c (omega arith) in
        ap (λ (xs : List ℕ). step_at up xs (length front + t.id r c)) (stepped_to c (omega arith))
        ∙ ap (λ (x : ℕ). set (area c) (length front + t.id r c) (shifted up x 1)) (at_id front back n (after c) (t.id r c) here)
        ∙ put_id front back n (after c) (t.id r c) (shifted up (after c (t.id r c)) 1) here
        ∙ ap (λ (zs : List ℕ). front ++ (zs ++ back)) (tabulate_same n _ (after (suc c)) (λ v _. one_more c (omega arith) v))

    -- a row that steps: the word of each id that it holds
    pub row_stepped : {first : ℕ} → first ≡ length front
        → step_row t first up r t.corners (front ++ (tabulate n f ++ back)) ≡ front ++ (tabulate n (λ v. shifted up (f v) (bit (holds t r v))) ++ back)
    unfolding area after among any holds
    row_stepped e =
        rw e (ap (λ (zs : List ℕ). step_row t (length front) up r t.corners (front ++ (zs ++ back)))
        (tabulate_same n f (after 0) (λ v _. sym (ap (shifted up (f v)) (bit_zero {b = false} refl) ∙ shifted_none up (f v))))
        ∙ stepped_to t.corners (omega arith))

    pub tally_at : {first : ℕ} → first ≡ length front → (c : ℕ) → c < t.corners → get_or (front ++ (tabulate n f ++ back)) (first + t.id r c) 0 ≡ f (t.id r c)
    tally_at e c l = rw e (at_id front back n f (t.id r c) (below c l))
