-- Places: the faces of one kind, m to a row. Place p is the face p % m of row p / m.
use Rattle.std.specs.Prelude.{◌≡◌, refl, Bool, true, not, List, ℕ, ◌+◌, ◌*◌, ◌/◌, ◌%◌, ◌≤◌, ◌<◌}
use Rattle.std.proofs.Math.Path.{sym, ap}
use Rattle.std.proofs.Common.{◌∙◌, mod-lt, lt_trans, mul-le-mul, arith}
use Rattle.std.proofs.Math.Option.{some, none}
use Rattle.std.proofs.Math.Nat.{div-add-mod}
use Rattle.std.proofs.lemmas.Bool.{not-true, not-false}
use Rattle.rules.specs.Below.{lowest, any, all, bit, count}
use Rattle.rules.specs.Table.{Table}
use Rattle.rules.specs.Laws.Truth.{same_test}
use Rattle.rules.specs.Laws.Below.{lowest_is, is_lowest, lowest_none, none_lowest, any_here, any_some, each_all, fails_all}
use Rattle.rules.specs.Laws.Count.{sum_same, count_blocks, any_count}
use Rattle.rules.specs.Laws.Places.{row_of, within_row, row_below, place_below}
use Rattle.rules.specs.Reading.Rows.{Rising}
use Rattle.table.specs.declared.faces.Face.{Face}
use Rattle.table.specs.Faces.{Kind, face_of, same_ids, same_ids_lem, ids_same, holds_ids, key_of, kind_small, own_face, has_face, one_face}
use Rattle.table.specs.Chains.{Threaded}
use Rattle.rules.specs.Job.{most_rows}

abbrev pub face_at : Table → ℕ → ℕ → ℕ → Face
face_at t base m place = face_of t (place / m) (base + place % m)

-- places with the same ids
unfoldable pub like : Table → ℕ → ℕ → ℕ → ℕ → Bool
like t base m p q = same_ids (face_at t base m p) (face_at t base m q)

pub like_self : (t : Table) (base m p : ℕ) → like t base m p p ≡ true
unfolding like
like_self t base m p = ids_same (face_at t base m p) (face_at t base m p) refl

-- they have the same key
pub like_key : (t : Table) (base m p q : ℕ) → like t base m p q ≡ true → key_of (face_at t base m q) ≡ key_of (face_at t base m p)
unfolding like
like_key t base m p q e = ap key_of (sym (same_ids_lem (face_at t base m p) (face_at t base m q) e))

-- the places of a kind, threaded by their keys
abbrev pub Chained : Table → ℕ → ℕ → List ℕ → List ℕ → Type 0
Chained t base m head next = Threaded (λ p. key_of (face_at t base m p)) (m * t.rows) 0 head next

pub places_fit : {base m n : ℕ} → Kind base m → n ≤ most_rows → m * n ≤ 12288
places_fit kind l = mul-le-mul (kind_small kind).1 l

-- ---- rows and places

module _ {m : ℕ} (pos : 0 < m) where
  -- The lowest row with a broken face is that of the lowest broken face.
  module _ (n : ℕ) (fine good : ℕ → Bool) (rule : (r : ℕ) → r < n → good r ≡ all m (λ e. fine (m * r + e))) where
    pub broken_row : (p : ℕ) → lowest (m * n) (λ q. not (fine q)) ≡ some p → lowest n (λ r. not (good r)) ≡ some (p / m)
    broken_row p e =
        let low = lowest_is (m * n) (λ q. not (fine q)) p e in
        let here = row_below pos n p low.below in
        is_lowest n (λ r. not (good r)) (p / m) (record {
          below = here;
          passes = ap not (rule (p / m) here ∙ fails_all m (λ e. fine (m * (p / m) + e)) (p % m) (mod-lt p pos) (rw (div-add-mod p m) (not-true (fine p) low.passes)));
          first = λ r l. ap not (rule r (lt_trans l here) ∙ each_all m (λ e. fine (m * r + e)) (λ e k.
              not-false (fine (m * r + e)) (low.first (m * r + e) (omega (arith, place_below pos (p / m) r e l k, div-add-mod p m)))));
        })

    pub broken_none : lowest (m * n) (λ q. not (fine q)) ≡ none → lowest n (λ r. not (good r)) ≡ none
    broken_none e =
        none_lowest n (λ r. not (good r)) (λ r l. ap not (rule r l ∙ each_all m (λ e. fine (m * r + e)) (λ d k.
        not-false (fine (m * r + d)) (lowest_none (m * n) (λ q. not (fine q)) e (m * r + d) (place_below pos n r d l k)))))

-- ---- how many rows hold a face

module _ (t : Table) (four : t.corners ≡ 4) (up : (r : ℕ) → r < t.rows → Rising t r) {base m : ℕ} (kind : Kind base m) where
  pub face_at_lem : (s e : ℕ) → e < m → face_at t base m (m * s + e) ≡ face_of t s (base + e)
  face_at_lem s e l = rw (row_of (kind_small kind).0 s e l, within_row (kind_small kind).0 s e l)

  module _ (p : ℕ) (l : p < m * t.rows) where
    here : p / m < t.rows
    here = row_below (kind_small kind).0 t.rows p l

    like_face : (s e : ℕ) → e < m → like t base m p (m * s + e) ≡ true → face_at t base m p ≡ face_of t s (base + e)
    unfolding like
    like_face s e k q = same_ids_lem (face_at t base m p) (face_at t base m (m * s + e)) q ∙ face_at_lem s e k

    face_like : (s e : ℕ) → e < m → face_at t base m p ≡ face_of t s (base + e) → like t base m p (m * s + e) ≡ true
    unfolding like
    face_like s e k q = ids_same (face_at t base m p) (face_at t base m (m * s + e)) (q ∙ sym (face_at_lem s e k))

    -- a row with a place like p holds the face at p
    pub like_holds : (s e : ℕ) → e < m → like t base m p (m * s + e) ≡ true → holds_ids t (face_at t base m p) s ≡ true
    like_holds s e k q =
        ap (λ (f : Face). holds_ids t f s) (like_face s e k q) ∙ own_face t four s (base + e) (omega (arith, (kind_small kind).2))

    -- and a row that holds it has one
    pub holds_like : (s : ℕ) → s < t.rows → holds_ids t (face_at t base m p) s ≡ true → (e : ℕ) × (e < m) × (like t base m p (m * s + e) ≡ true)
    holds_like s k h =
        let (e, le, same) = has_face t four kind (up (p / m) here) (up s k) (p % m) (mod-lt p (kind_small kind).0) h in
        (e, le, face_like s e le same)

    pub one_like : (s : ℕ) → s < t.rows → (d e : ℕ) → d < m → e < m → like t base m p (m * s + d) ≡ true → like t base m p (m * s + e) ≡ true → d ≡ e
    one_like s k d e ld le x y = one_face t four kind (up s k) d e ld le (sym (like_face s d ld x) ∙ like_face s e le y)

    pub like_count : count (m * t.rows) (like t base m p) ≡ count t.rows (holds_ids t (face_at t base m p))
    unfolding count
    like_count =
        count_blocks m t.rows (like t base m p)
        ∙ sum_same t.rows (λ s. count m (λ e. like t base m p (m * s + e))) (λ s. bit (holds_ids t (face_at t base m p) s))
        (λ s k. sym (any_count m (λ e. like t base m p (m * s + e)) (one_like s k)) ∙ ap bit (has_like s k))
      where
        has_like : (s : ℕ) → s < t.rows → any m (λ e. like t base m p (m * s + e)) ≡ holds_ids t (face_at t base m p) s
        has_like s k =
            same_test (any m (λ e. like t base m p (m * s + e))) (holds_ids t (face_at t base m p) s)
            (λ a. let (e, le, q) = any_some m (λ e. like t base m p (m * s + e)) a in like_holds s e le q)
            (λ h. let (e, le, q) = holds_like s k h in any_here m (λ e. like t base m p (m * s + e)) e le q)
