-- What holds of three numbers in one order, and stays when two that stand side by side change places, holds in every order.
use Rattle.std.specs.Prelude.{◌≡◌, ◌⊎◌, ◌≢◌, List, [], ◌∷◌, ℕ, ◌<◌, length, get_or}
use Rattle.std.proofs.Common.{sym, ◌∙◌, subst, inl, inr, ⊎_elim, arith}
use mathlib.Core.List.Memᴰ
use Rattle.rules.specs.Table.{Table}
use Rattle.rules.specs.Skin.{triangle}
use Rattle.rules.specs.Laws.Lists.{Among}
use Rattle.rules.specs.Reading.Skin.{Different, TriangleIds}
use Rattle.rules.specs.Reading.Room.{triangle_length, triangle_holds}

abbrev Either : ℕ → ℕ → ℕ → Type 0
Either b c x = (x ≡ b) ⊎ (x ≡ c)

abbrev pub OneOf : ℕ → ℕ → ℕ → ℕ → Type 0
OneOf a b c x = (x ≡ a) ⊎ Either b c x

member_of_three : (xs : List ℕ) → length xs ≡ 3 → (u : ℕ) → Among u xs → OneOf (get_or xs 0 0) (get_or xs 1 0) (get_or xs 2 0) u
member_of_three [] e u m = absurd (omega arith)
member_of_three (a ∷ []) e u m = absurd (omega arith)
member_of_three (a ∷ b ∷ []) e u m = absurd (omega arith)
member_of_three (a ∷ b ∷ c ∷ []) e u m =
    ⊎_elim inl (λ n. inr (⊎_elim inl (λ k. inr (⊎_elim (λ (q : u ≡ c). q) (λ z. absurd (Memᴰ.not-nil z)) (Memᴰ.cases_cons k))) (Memᴰ.cases_cons n)))
    (Memᴰ.cases_cons m)
member_of_three (a ∷ b ∷ c ∷ d ∷ xs) e u m = absurd (omega arith)

-- an id of the triangle of row r that leaves out corner c
pub one_of_triangle : (t : Table) → t.corners ≡ 4 → {r c k u : ℕ} → c < 4 → k < 4 → k ≢ c → t.id r k ≡ u
    → OneOf (get_or (triangle t r c) 0 0) (get_or (triangle t r c) 1 0) (get_or (triangle t r c) 2 0) u
one_of_triangle t four {r} {c} {k} {u} lc l ne e =
    member_of_three (triangle t r c) (triangle_length t four r c lc) u (subst (λ (v : ℕ). Among v (triangle t r c)) e (triangle_holds t four r c k l ne))

module _ (P : ℕ → ℕ → ℕ → Type 0) (swap₁ : (a b c : ℕ) → P a b c → P b a c) (swap₂ : (a b c : ℕ) → P a b c → P a c b) where
  last_two : (a b c y z : ℕ) → P a b c → y ≢ z → Either b c y → Either b c z → P a y z
  last_two a b c y z p ne (inl e) (inl f) = absurd (ne (e ∙ sym f))
  last_two a b c y z p ne (inl e) (inr f) = rw (e, f) p
  last_two a b c y z p ne (inr e) (inl f) = rw (e, f) (swap₂ a b c p)
  last_two a b c y z p ne (inr e) (inr f) = absurd (ne (e ∙ sym f))

  -- a member other than the first is one of the other two
  drop_first : {a b c x y : ℕ} → x ≡ a → x ≢ y → OneOf a b c y → Either b c y
  drop_first e ne (inl f) = absurd (ne (e ∙ sym f))
  drop_first e ne (inr r) = r

  three_orders : (a b c x y z : ℕ) → P a b c → Different x y z → OneOf a b c x → OneOf a b c y → OneOf a b c z → P x y z
  three_orders a b c x y z p (xy, xz, yz) (inl e) j k = rw e (last_two a b c y z p yz (drop_first e xy j) (drop_first e xz k))
  three_orders a b c x y z p (xy, xz, yz) (inr (inl e)) j k =
      rw e (last_two b a c y z (swap₁ a b c p) yz (drop_first e xy (one_two j)) (drop_first e xz (one_two k)))
    where
      one_two : {u : ℕ} → OneOf a b c u → OneOf b a c u
      one_two (inl q) = inr (inl q)
      one_two (inr (inl q)) = inl q
      one_two (inr (inr q)) = inr (inr q)
  three_orders a b c x y z p (xy, xz, yz) (inr (inr e)) j k =
      rw e (last_two c a b y z (swap₁ a c b (swap₂ a b c p)) yz (drop_first e xy (three_one j)) (drop_first e xz (three_one k)))
    where
      three_one : {u : ℕ} → OneOf a b c u → OneOf c a b u
      three_one (inl q) = inr (inl q)
      three_one (inr (inl q)) = inr (inr q)
      three_one (inr (inr q)) = inl q

  -- from the rising ids of a triangle to its ids in any order
  pub in_any_order : (t : Table) → t.corners ≡ 4 → {r c x y w : ℕ} → c < 4 → TriangleIds t r c x y w → Different x y w
      → P (get_or (triangle t r c) 0 0) (get_or (triangle t r c) 1 0) (get_or (triangle t r c) 2 0) → P x y w
  in_any_order t four {x = x} {y = y} {w = w} lc i d p =
      three_orders _ _ _ x y w p d (one_of_triangle t four lc i.first_below i.first_stays i.first_is)
      (one_of_triangle t four lc i.second_below i.second_stays i.second_is) (one_of_triangle t four lc i.third_below i.third_stays i.third_is)
