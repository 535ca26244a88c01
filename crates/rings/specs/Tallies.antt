-- The skin triangles at a vertex, counted place by place: how many there are, and the last of their places.
use Rattle.std.specs.Prelude.{◌≡◌, ◌⊎◌, ◌≢◌, Bool, not, ◌&&◌, ◌||◌, List, ℕ, ◌+◌, ◌*◌, ◌/◌, ◌%◌, ◌≤◌, ◌<◌, length, get_or, set, replicate}
use Rattle.std.proofs.Math.Path.{refl}
use Rattle.std.proofs.Common.{sym, ap, ◌∙◌, inl, inr, ⊎_elim, mod-lt, arith, lit<, length-set, get_or-set_same, get_or-set_other}
use Rattle.std.proofs.Math.Bool.{true, false, cond, and-false}
use Rattle.std.proofs.Math.Dec.{eqb}
use Rattle.std.proofs.lemmas.List.{length-replicate, get_or-replicate}
use borrow.Author.Tests.{eq-eqb, ne_eqb, not-true, not-false}
use Rattle.rules.specs.Below.{bit, sum, count}
use Rattle.rules.specs.Proposals.{inside_in}
use Rattle.rules.specs.Job.{most_ids}
use Rattle.rules.specs.Laws.Truth.{same_or_not}
use Rattle.rules.specs.Laws.Count.{bit_one, bit_zero, count_more, count_not}
use Rattle.rules.specs.Laws.Highest.{highest, highest_more, highest_small}
use Rattle.rules.specs.Laws.Places.{row_below}
use Rattle.table.specs.declared.faces.Face.{Face}
use Rattle.rings.specs.declared.tallies.Tally.{Tally}
use Rattle.table.specs.Rows.{table_in, rows_in}
use Rattle.table.specs.Faces.{corner_of, face_of, corner_below}
use Rattle.table.specs.Ground.{neighbour_below, neighbour_listed}
use Rattle.skin.specs.Between.{between, between_skin}
use Rattle.rings.specs.Far.{in_face, shown, shown_at, face_rises, Marked}

-- how many skin triangles v has at the places before p, and the last of these
pub record Tallied (bytes marks : List ℕ) (v p total place : ℕ) : Type 0 where
  pub counted : total ≡ count p (shown_at (table_in bytes) (inside_in marks) v)
  pub last : place ≡ highest p (shown_at (table_in bytes) (inside_in marks) v)

pub tally_begins : (bytes marks : List ℕ) (v : ℕ) → Tallied bytes marks v 0 0 0
unfolding count sum highest
tally_begins bytes marks v = record { counted = refl; last = refl }

module _ {bytes marks : List ℕ} {v p total place : ℕ} (w : Tallied bytes marks v p total place) where
  pub tally_few : total ≤ p
  tally_few = omega (arith, w.counted, count_not p (shown_at (table_in bytes) (inside_in marks) v))

  pub tally_low : place ≤ p
  tally_low = rw w.last (highest_small p (shown_at (table_in bytes) (inside_in marks) v))

  pub tally_more : {on : Bool} → on ≡ shown_at (table_in bytes) (inside_in marks) v p → {total' place' : ℕ} → total' ≡ total + cond on 1 0 → place' ≡ cond on p place
      → Tallied bytes marks v (p + 1) total' place'
  unfolding bit
  tally_more is more at = record {
    counted = more ∙ rw (w.counted, is) (sym (count_more p (shown_at (table_in bytes) (inside_in marks) v)));
    last = at ∙ rw (w.last, is) (sym (highest_more p (shown_at (table_in bytes) (inside_in marks) v)));
  }

pub one_small : (on : Bool) {one : ℕ} → one ≡ cond on 1 0 → one ≤ 1
one_small true e = omega arith
one_small false e = omega arith

-- no skin triangle yet
abbrev pub unmet : Tally
unmet = record { count = 0; place = 0 }

-- the same of every id
pub record Tallies (bytes marks : List ℕ) (p : ℕ) (tallies : List Tally) : Type 0 where
  pub long : length tallies ≡ most_ids
  pub each : (v : ℕ) → v < most_ids → Tallied bytes marks v p (get_or tallies v unmet).count (get_or tallies v unmet).place

pub tallies_begin : (bytes marks : List ℕ) → Tallies bytes marks 0 (replicate most_ids unmet)
tallies_begin bytes marks = record {
  long = length-replicate {A = Tally} most_ids unmet;
  each = λ v l. rw (get_or-replicate {A = Tally} most_ids v unmet unmet l) (tally_begins bytes marks v);
}

-- ---- one place

module _ {bytes neighbours marks : List ℕ} {ids : ℕ} (m : Marked bytes neighbours marks ids) {place : ℕ} (here : place < 4 * rows_in bytes) where
  place_row : place / 4 < rows_in bytes
  place_row = row_below {m = 4} (lit< tt) (rows_in bytes) place here

  place_corner : place % 4 < 4
  place_corner = mod-lt place (lit< tt)

  pub place_marked : (4 * (place / 4) + place % 4 < length neighbours) × (place / 4 < length marks) × (get_or neighbours (4 * (place / 4) + place % 4) 0 < length marks)
  place_marked = (
    neighbour_listed m.ground (place / 4) (place % 4) place_row place_corner,
    rw m.each place_row,
    rw m.each (neighbour_below m.ground (place / 4) (place % 4) place_row place_corner),
  )

  pub shown_by : {f : Face} → f ≡ face_of (table_in bytes) (place / 4) (place % 4) → {inner side : Bool} → inner ≡ inside_in marks (place / 4) → side ≡ between neighbours marks (place / 4) (place % 4)
      → (v : ℕ) → (inner && (side && in_face f v)) ≡ shown_at (table_in bytes) (inside_in marks) v place
  unfolding shown
  shown_by ef ei es v = rw (ei, es, between_skin m.ground (place / 4) (place % 4) place_row place_corner marks, ef)

  -- a triangle with both its rows on one side shows nothing
  pub shown_side_off : {side : Bool} → side ≡ between neighbours marks (place / 4) (place % 4) → not side ≡ true → (v : ℕ) → shown_at (table_in bytes) (inside_in marks) v place ≡ false
  unfolding shown
  shown_side_off {side} es off v =
      rw (← between_skin m.ground (place / 4) (place % 4) place_row place_corner marks, ← es, not-true side off) (and-false (inside_in marks (place / 4)))

  -- an inside row and an outside row show their triangle at each of its ids
  pub shown_both : {f : Face} → f ≡ face_of (table_in bytes) (place / 4) (place % 4) → inside_in marks (place / 4) ≡ true → {side : Bool} → side ≡ between neighbours marks (place / 4) (place % 4)
      → not side ≡ false → (v : ℕ) → shown_at (table_in bytes) (inside_in marks) v place ≡ in_face f v
  shown_both {f} ef on {side} es across v = sym (shown_by ef (sym on) es v) ∙ rw (not-false side across)

  -- the ids of the triangle rise, and each has a tally
  pub face_fits : {f : Face} → f ≡ face_of (table_in bytes) (place / 4) (place % 4) → (f.a < f.b) × (f.b < f.c) × (f.c < most_ids)
  unfolding face_of
  face_fits ef =
      let (ab, bc) = face_rises (table_in bytes) refl (m.ground.paired.rising (place / 4) place_row) (place % 4) place_corner in
      rw ef (ab, bc, last)
    where
      last : (face_of (table_in bytes) (place / 4) (place % 4)).c < most_ids
      last =
          omega (arith, m.few, m.ground.paired.below (place / 4) place_row (corner_of (place % 4) 2) (corner_below (place % 4) 2 (omega (arith, place_corner)) (lit< tt)))

-- ---- the tallies after one place

-- one skin triangle more at an id
abbrev pub met : ℕ → ℕ → List Tally → List Tally
met id place tallies = set tallies id (record { count = (get_or tallies id unmet).count + 1; place = place })

module _ (tallies : List Tally) (a v p : ℕ) (l : a < length tallies) where
  abbrev now : Tally
  now = record { count = (get_or tallies a unmet).count + 1; place = p }

  count_at : (get_or (met a p tallies) v unmet).count ≡ (get_or tallies v unmet).count + bit (eqb a v)
  count_at = ⊎_elim here there (same_or_not v a)
    where
      here : v ≡ a → (get_or (met a p tallies) v unmet).count ≡ (get_or tallies v unmet).count + bit (eqb a v)
      here e = rw (e, get_or-set_same tallies a now unmet l, bit_one (eq-eqb a a refl))

      there : v ≢ a → (get_or (met a p tallies) v unmet).count ≡ (get_or tallies v unmet).count + bit (eqb a v)
      there ne = omega (arith, ap (λ (t : Tally). t.count) (get_or-set_other tallies a v now unmet ne), bit_zero (ne_eqb a v (λ (e : a ≡ v). ne (sym e))))

  place_at : (get_or (met a p tallies) v unmet).place ≡ cond (eqb a v) p (get_or tallies v unmet).place
  place_at =
      ⊎_elim (λ (e : v ≡ a). rw (e, get_or-set_same tallies a now unmet l, eq-eqb a a refl))
      (λ ne. rw (get_or-set_other tallies a v now unmet ne, ne_eqb a v (λ (e : a ≡ v). ne (sym e)))) (same_or_not v a)

module _ (f : Face) (v : ℕ) (ab : f.a < f.b) (bc : f.b < f.c) where
  ids_once : bit (eqb f.a v) + bit (eqb f.b v) + bit (eqb f.c v) ≡ cond (in_face f v) 1 0
  unfolding bit in_face
  ids_once = go (same_or_not f.a v) (same_or_not f.b v) (same_or_not f.c v)
    where
      go : (f.a ≡ v) ⊎ (f.a ≢ v) → (f.b ≡ v) ⊎ (f.b ≢ v) → (f.c ≡ v) ⊎ (f.c ≢ v)
          → cond (eqb f.a v) 1 0 + cond (eqb f.b v) 1 0 + cond (eqb f.c v) 1 0 ≡ cond (eqb f.a v || eqb f.b v || eqb f.c v) 1 0
      go (inl x) (inl y) _ = absurd (omega arith)
      go (inl x) (inr y) (inl z) = absurd (omega arith)
      go (inl x) (inr y) (inr z) = rw (eq-eqb f.a v x, ne_eqb f.b v y, ne_eqb f.c v z)
      go (inr x) (inl y) (inl z) = absurd (omega arith)
      go (inr x) (inl y) (inr z) = rw (ne_eqb f.a v x, eq-eqb f.b v y, ne_eqb f.c v z)
      go (inr x) (inr y) (inl z) = rw (ne_eqb f.a v x, ne_eqb f.b v y, eq-eqb f.c v z)
      go (inr x) (inr y) (inr z) = rw (ne_eqb f.a v x, ne_eqb f.b v y, ne_eqb f.c v z)

  last_put : (p q : ℕ) → cond (eqb f.c v) p (cond (eqb f.b v) p (cond (eqb f.a v) p q)) ≡ cond (in_face f v) p q
  unfolding in_face
  last_put p q = go (eqb f.a v) (eqb f.b v) (eqb f.c v)
    where
      go : (x y z : Bool) → cond z p (cond y p (cond x p q)) ≡ cond (x || y || z) p q
      go true true true = refl
      go true true false = refl
      go true false true = refl
      go true false false = refl
      go false true true = refl
      go false true false = refl
      go false false true = refl
      go false false false = refl

module _ {bytes marks : List ℕ} {p : ℕ} {tallies : List Tally} (w : Tallies bytes marks p tallies) where
  pub tallies_end : {q : ℕ} → p ≡ q → Tallies bytes marks q tallies
  tallies_end e = rw (← e) w

  -- the place shows nothing
  pub tallies_pass : ((v : ℕ) → shown_at (table_in bytes) (inside_in marks) v p ≡ false) → Tallies bytes marks (p + 1) tallies
  tallies_pass off = record {
    long = w.long;
    each = λ v l. tally_more (w.each v l) {on = false} (sym (off v)) (omega arith) refl;
  }

  module _ {f : Face} (fits : (f.a < f.b) × (f.b < f.c) × (f.c < most_ids)) where
    abbrev once : List Tally
    once = met f.a p tallies

    abbrev twice : List Tally
    twice = met f.b p once

    once_long : length once ≡ most_ids
    once_long = length-set tallies f.a _ ∙ w.long

    twice_long : length twice ≡ most_ids
    twice_long = length-set once f.b _ ∙ once_long

    -- a tally is at most the number of places before
    pub room_one : (get_or tallies f.a unmet).count ≤ p
    room_one = tally_few (w.each f.a (omega (arith, fits.0, fits.1, fits.2)))

    pub room_two : (get_or once f.b unmet).count ≤ p
    room_two =
        rw (get_or-set_other tallies f.a f.b _ unmet (λ (e : f.b ≡ f.a). omega (arith, e, fits.0)))
        (tally_few (w.each f.b (omega (arith, fits.1, fits.2))))

    pub room_three : (get_or twice f.c unmet).count ≤ p
    room_three =
        rw (get_or-set_other once f.b f.c _ unmet (λ (e : f.c ≡ f.b). omega (arith, e, fits.1)), get_or-set_other tallies f.a f.c _ unmet (λ (e : f.c ≡ f.a). omega (arith, e, fits.0, fits.1)))
        (tally_few (w.each f.c fits.2))

    -- the place shows a triangle
    pub tallies_meet : ((v : ℕ) → shown_at (table_in bytes) (inside_in marks) v p ≡ in_face f v) → Tallies bytes marks (p + 1) (met f.c p twice)
    tallies_meet on = record {
      long = length-set twice f.c _ ∙ twice_long;
      each = λ v l. tally_more (w.each v l) {on = in_face f v} (sym (on v)) (counted v) (placed v);
    }
      where
        a_fits : f.a < length tallies
        a_fits = rw w.long (omega (arith, fits.0, fits.1, fits.2))

        b_fits : f.b < length once
        b_fits = rw once_long (omega (arith, fits.1, fits.2))

        c_fits : f.c < length twice
        c_fits = rw twice_long fits.2

        counted : (v : ℕ) → (get_or (met f.c p twice) v unmet).count ≡ (get_or tallies v unmet).count + cond (in_face f v) 1 0
        counted v =
            omega (
              arith,
              count_at twice f.c v p c_fits,
              count_at once f.b v p b_fits,
              count_at tallies f.a v p a_fits,
              ids_once f v fits.0 fits.1,
            )

        placed : (v : ℕ) → (get_or (met f.c p twice) v unmet).place ≡ cond (in_face f v) p (get_or tallies v unmet).place
        placed v =
            place_at twice f.c v p c_fits
            ∙ rw (place_at once f.b v p b_fits, place_at tallies f.a v p a_fits) (last_put f v fits.0 fits.1 p (get_or tallies v unmet).place)

-- a row that is outside shows nothing
pub tallies_skip : {bytes marks : List ℕ} (r : ℕ) {tallies : List Tally} → inside_in marks r ≡ false → Tallies bytes marks (4 * r) tallies → Tallies bytes marks (4 * (r + 1)) tallies
unfolding shown
tallies_skip {bytes} {marks} r {tallies} off w =
    tallies_end (pass (4 * r + 1 + 1 + 1) (omega arith) (pass (4 * r + 1 + 1) (omega arith) (pass (4 * r + 1) (omega arith) (pass (4 * r) (omega arith) w)))) (omega arith)
  where
    pass : (p : ℕ) → p / 4 ≡ r → Tallies bytes marks p tallies → Tallies bytes marks (p + 1) tallies
    pass p e t = tallies_pass t (λ v. rw (e, off))
