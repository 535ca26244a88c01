-- One facet (a triangle of a track, an edge of a flat plan), by the rows that hold it, whatever they hold else.
use Rattle.std.specs.Prelude.{◌≡◌, refl, ◌⊎◌, ◌↔◌, ◌≢◌, Bool, true, false, not, ℕ, ◌<◌}
use Rattle.std.proofs.Common.{sym, ap, ◌∙◌, subst, inl, inr, ⊎_elim, true≢false}
use Rattle.std.proofs.lemmas.Bool.{false≢true}
use Rattle.std.proofs.Math.Bool.{not-not}
use Rattle.rules.specs.Laws.Truth.{same_or_not}
use Rattle.rules.specs.Laws.Count.{TheOther}

-- ---- marks

-- the marks of two lists that differ in row r alone
pub record FlipAt (inside after : ℕ → Bool) (r : ℕ) : Type 0 where
  pub named : after r ≡ not (inside r)
  pub others : (s : ℕ) → s ≢ r → after s ≡ inside s

-- flipped back it is as it was
pub flip_back : {inside after : ℕ → Bool} {r : ℕ} → FlipAt inside after r → FlipAt after inside r
flip_back {inside} {after} {r} f = record { named = sym (not-not (inside r)) ∙ ap not (sym f.named); others = λ s ne. sym (f.others s ne) }

pub same_mark : (a b : Bool) → (a ≡ b) ⊎ (a ≢ b)
same_mark true true = inl refl
same_mark true false = inr true≢false
same_mark false true = inr false≢true
same_mark false false = inl refl

-- of two marks, one is flipped: they differ after exactly if they were the same
pub not_differs : (a b : Bool) → a ≡ b → not a ≢ b
not_differs true true e = false≢true
not_differs true false e = absurd (true≢false e)
not_differs false true e = absurd (false≢true e)
not_differs false false e = true≢false

pub differs_not : (a b : Bool) → a ≢ b → not a ≡ b
differs_not true true ne = absurd (ne refl)
differs_not true false ne = refl
differs_not false true ne = refl
differs_not false false ne = absurd (ne refl)

-- ---- a facet between the two sides

-- one of two holds, and the other does not
abbrev pub Flips : Type 0 → Type 0 → Type 0
Flips P Q = (P × (Q → ⊥)) ⊎ (Q × (P → ⊥))

module _ (n : ℕ) (On : ℕ → Type 0) where
  -- the facet is on the skin: two rows that hold it have different marks
  pub record Split (inside : ℕ → Bool) : Type 0 where
    pub one : ℕ
    pub two : ℕ
    pub one_below : one < n
    pub two_below : two < n
    pub one_on : On one
    pub two_on : On two
    pub marks_differ : inside one ≢ inside two

  module _ (r : ℕ) (l : r < n) (on : On r) (o : TheOther n On r) where
    -- its rows are r and the other
    holder : (x : ℕ) → x < n → On x → (x ≡ r) ⊎ (x ≡ o.other)
    holder x m h = ⊎_elim inl (λ ne. inr (o.only x m h ne)) (same_or_not x r)

    split_differ : (inside : ℕ → Bool) → Split inside ↔ (inside r ≢ inside o.other)
    split_differ inside = (
      λ s e. s.marks_differ (mark e s.one s.one_below s.one_on ∙ sym (mark e s.two s.two_below s.two_on)),
      λ ne. record { one = r; two = o.other; one_below = l; two_below = o.below; one_on = on; two_on = o.is; marks_differ = ne },
    )
      where
        mark : inside r ≡ inside o.other → (x : ℕ) → x < n → On x → inside x ≡ inside r
        mark e x m h = ⊎_elim (λ (q : x ≡ r). ap inside q) (λ (q : x ≡ o.other). ap inside q ∙ sym e) (holder x m h)

    -- a facet of the flipped row is on the skin before or after, not both
    pub split_flips : {inside after : ℕ → Bool} → FlipAt inside after r → Flips (Split inside) (Split after)
    split_flips {inside} {after} f = ⊎_elim (λ e. inr (now e)) (λ ne. inl (before ne)) (same_mark (inside r) (inside o.other))
      where
        kept : after o.other ≡ inside o.other
        kept = f.others o.other o.differs

        now : inside r ≡ inside o.other → Split after × (Split inside → ⊥)
        now e = (
          (split_differ after).1 (λ (q : after r ≡ after o.other). not_differs (inside r) (inside o.other) e (sym f.named ∙ q ∙ kept)),
          λ s. (split_differ inside).0 s e,
        )

        before : inside r ≢ inside o.other → Split inside × (Split after → ⊥)
        before ne = ((split_differ inside).1 ne, λ s. (split_differ after).0 s (f.named ∙ differs_not (inside r) (inside o.other) ne ∙ sym kept))

  -- a facet that the flipped row does not hold stays as it was
  pub split_kept : {inside after : ℕ → Bool} {r : ℕ} → FlipAt inside after r → (On r → ⊥) → Split inside → Split after
  split_kept {inside} {after} {r} f off s = record {
    one = s.one;
    two = s.two;
    one_below = s.one_below;
    two_below = s.two_below;
    one_on = s.one_on;
    two_on = s.two_on;
    marks_differ = λ (e : after s.one ≡ after s.two). s.marks_differ (sym (kept s.one s.one_on) ∙ e ∙ kept s.two s.two_on);
  }
    where
      kept : (x : ℕ) → On x → after x ≡ inside x
      kept x h = f.others x (λ (e : x ≡ r). off (subst On e h))

-- facets that the same rows hold
pub split_map : {n : ℕ} {On On' : ℕ → Type 0} {inside : ℕ → Bool} → ((z : ℕ) → On z → On' z) → Split n On inside → Split n On' inside
split_map f s = record {
  one = s.one;
  two = s.two;
  one_below = s.one_below;
  two_below = s.two_below;
  one_on = f s.one s.one_on;
  two_on = f s.two s.two_on;
  marks_differ = s.marks_differ;
}
