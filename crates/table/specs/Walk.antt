-- A walk along the chain of a place: what it has found of the places with the same ids.
use Rattle.std.specs.Prelude.{◌≡◌, refl, Bool, true, false, ◌&&◌, cond, List, ℕ, ◌+◌, ◌*◌, ◌≤◌, ◌<◌, eqb, get_or}
use Rattle.std.proofs.Math.Path.{sym}
use Rattle.std.proofs.Common.{ap, subst, arith}
use Rattle.std.proofs.Math.Bool.{not}
use Rattle.rules.specs.Below.{any, bit, count}
use Rattle.rules.specs.Table.{Table}
use Rattle.rules.specs.Laws.Truth.{not_both, is_false, and_first}
use Rattle.rules.specs.Laws.Below.{any_here, none_any}
use Rattle.rules.specs.Laws.Count.{count_not, none_count}
use Rattle.rules.specs.Laws.Highest.{highest}
use Rattle.table.specs.declared.faces.Face.{Face}
use Rattle.table.specs.Faces.{same_ids, key_of, key_below}
use Rattle.table.specs.Places.{face_at, Chained, like, like_key}
use Rattle.table.specs.Chains.{Next, walk_first, walk_count, walk_highest, walk_none, off_chain}

-- the places with the ids of place p but p itself
unfoldable pub another : Table → ℕ → ℕ → ℕ → ℕ → Bool
another t base m p q = like t base m p q && not (eqb q p)

module _ (t : Table) (base m p : ℕ) where
  abbrev places : ℕ
  places = m * t.rows

  abbrev key : ℕ → ℕ
  key q = key_of (face_at t base m q)

  -- the walk stands at place q, and all places of the chain below q are behind it
  pub record Standing (q : ℕ) : Type 0 where
    pub upto : q ≤ places
    pub hits : q < places → key q ≡ key p

  pub record Walked (q n other : ℕ) : Type 0 where
    pub standing : Standing q
    pub counted : n ≡ count q (like t base m p)
    pub last : other ≡ highest q (another t base m p)

  -- and none of them has the ids
  pub record Missed (q : ℕ) : Type 0 where
    pub standing : Standing q
    pub misses : (k : ℕ) → k < q → like t base m p k ≡ false

  -- where none before it has the ids, a walk may begin at the place itself
  pub walk_onward : p < places → true ≡ not (any p (like t base m p)) → Walked p 0 (highest p (another t base m p))
  walk_onward l off = record {
    standing = record { upto = omega (arith, l); hits = λ _. refl };
    counted = sym (none_count p (like t base m p) (λ k below. is_false (like t base m p k) (λ on. not_both (sym off) (ap not (any_here p (like t base m p) k below on)))));
    last = refl;
  }

  another_key : (q : ℕ) → q < places → another t base m p q ≡ true → key q ≡ key p
  unfolding another
  another_key q _ e = like_key t base m p q (and_first (like t base m p q) (not (eqb q p)) e)

  module _ {head next : List ℕ} (chained : Chained t base m head next) where
    first : Next key places (key p) 0 (get_or head (key p) 0)
    first = chained.heads (key p) (key_below (face_at t base m p))

    after : (q : ℕ) → q < places → Standing q → Next key places (key p) (q + 1) (get_or next q 0)
    after q l s = subst (λ (v : ℕ). Next key places v (q + 1) (get_or next q 0)) (s.hits l) (chained.nexts q (omega arith) l)

    stands_first : Standing (get_or head (key p) 0)
    stands_first = record { upto = first.upto; hits = first.hits }

    stands_after : (q : ℕ) → q < places → Standing q → Standing (get_or next q 0)
    stands_after q l s = record { upto = (after q l s).upto; hits = (after q l s).hits }

    pub walk_begins : Walked (get_or head (key p) 0) 0 0
    walk_begins = record {
      standing = stands_first;
      counted = (walk_first key places (like t base m p) (key p) (λ q _. like_key t base m p q) first).0;
      last = (walk_first key places (another t base m p) (key p) another_key first).1;
    }

    -- one turn: the faces f at p and g at q are compared, and the walk goes to the next place
    pub walk_turn : {q n other : ℕ} → q < places → Walked q n other → {f g : Face} {hit : Bool} {more other' q' : ℕ} → f ≡ face_at t base m p → g ≡ face_at t base m q
        → hit ≡ same_ids f g → more ≡ cond hit 1 0 → other' ≡ cond (hit && not (eqb q p)) q other → q' ≡ get_or next q 0 → Walked q' (n + more) other'
    unfolding bit like another
    walk_turn {q} {n} {other} l w {f} {g} ef eg eh em eo eq = rw (eq, em, eo, eh, ef, eg) (record {
      standing = stands_after q l w.standing;
      counted = rw w.counted (walk_count key places (like t base m p) (key p) (λ q _. like_key t base m p q) q (after q l w.standing));
      last = rw w.last (walk_highest key places (another t base m p) (key p) another_key q (after q l w.standing));
    })

    -- ---- a walk that looks for the first place

    pub miss_begins : Missed (get_or head (key p) 0)
    miss_begins = record { standing = stands_first; misses = λ k l. off_chain key places (like t base m p) (key p) (λ q _. like_key t base m p q) first k (omega arith) l }

    pub miss_turn : {q : ℕ} → q < places → Missed q → {f g : Face} {hit : Bool} {q' : ℕ} → f ≡ face_at t base m p → g ≡ face_at t base m q
        → hit ≡ same_ids f g → hit ≡ false → q' ≡ get_or next q 0 → Missed q'
    unfolding like
    miss_turn {q} l w ef eg eh off eq = rw eq (record {
      standing = stands_after q l w.standing;
      misses = walk_none key places (like t base m p) (key p) (λ q _. like_key t base m p q) q (after q l w.standing) w.misses (rw (← ef, ← eg, ← eh) off);
    })

  pub miss_ends : {q : ℕ} → p ≤ q → Missed q → true ≡ not (any p (like t base m p))
  miss_ends l w = sym (ap not (none_any p (like t base m p) (λ k n. w.misses k (omega arith))))

  pub hit_ends : {q : ℕ} → q < p → {f g : Face} {hit : Bool} → f ≡ face_at t base m p → g ≡ face_at t base m q → hit ≡ same_ids f g → hit ≡ true → false ≡ not (any p (like t base m p))
  unfolding like
  hit_ends {q} l ef eg eh on = sym (ap not (any_here p (like t base m p) q l (rw (← ef, ← eg, ← eh) on)))

  pub walked_small : (q n other : ℕ) → Walked q n other → n ≤ q
  walked_small q n other w = omega (arith, w.counted, count_not q (like t base m p))
