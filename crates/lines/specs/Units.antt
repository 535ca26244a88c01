-- Laws of a number's text, and of a list's.
use Rattle.std.specs.Prelude.{◌≡◌, ◌≢◌, true, false, List, [], ◌∷◌, ℕ, ◌%◌, ◌≤◌, ℤ, pos, nat_abs, length, get_or}
use Rattle.std.proofs.Common.{arith, SFits, to_z, of_z, to_z-of_z, eq-eqb, ne_eqb}
use Rattle.std.specs.Int.Signed.{lt_z}
use Rattle.std.specs.Int.{w16}
use Rattle.rules.specs.Points.{below_zero}
use Rattle.lines.specs.Listing.{decimal}
use Rattle.lines.specs.Decimal.{few_digits}
use Rattle.lines.specs.Facets.{whole, parting, unit_text}
use Rattle.lines.specs.Put.{Put, put_more}
use Rattle.lines.specs.declared.text.Page.{Page}
use Rattle.lines.specs.Page.{Puts, TakesFew, puts_more, puts_few}

-- ---- an i16, as it is read back

pub stored_is : {u : ℤ} → SFits w16 u → to_z w16 (of_z w16 u) ≡ u
stored_is {u} fits = to_z-of_z {w = w16} {z = u} fits

-- ---- its text

-- five digits at most
pub few_of : {n : ℕ} → n ≤ 32768 → length (decimal n) ≤ 5
few_of {n} l = few_digits 4 n (omega arith)

-- the number as it is stored, by its sign and its size
module _ {u : ℤ} (fits : SFits w16 u) {n : ℕ} (size : n ≡ nat_abs (to_z w16 (of_z w16 u))) {d d' : List ℕ} {at m : ℕ} where
  pub minus_put : lt_z (to_z w16 (of_z w16 u)) (pos 0) ≡ true → Put (45 ∷ []) d at d' m → {d'' : List ℕ} {l : ℕ} → Put (decimal n) d' m d'' l → Put (whole u) d at d'' l
  unfolding whole below_zero
  minus_put e p q = rw (← stored_is fits, e, ← size) (put_more p q)

  pub plain_put : lt_z (to_z w16 (of_z w16 u)) (pos 0) ≡ false → Put (decimal n) d at d' m → Put (whole u) d at d' m
  unfolding whole below_zero
  plain_put e p = rw (← stored_is fits, e, ← size) p

-- the same, on a page
module _ {u : ℤ} (fits : SFits w16 u) {n : ℕ} (size : (n ≡ nat_abs (to_z w16 (of_z w16 u))) × (n ≤ 32768)) {p q : Page} where
  pub minus_puts : lt_z (to_z w16 (of_z w16 u)) (pos 0) ≡ true → Puts (45 ∷ []) p q → {r : Page} → Puts (decimal n) q r → Puts (whole u) p r × TakesFew 6 p r
  minus_puts e minus number =
      let both = puts_more minus number in
      (record { same = both.same; put = minus_put fits size.0 e minus.put number.put }, puts_few 6 both (omega (arith, few_of size.1)))

  pub plain_puts : lt_z (to_z w16 (of_z w16 u)) (pos 0) ≡ false → Puts (decimal n) p q → Puts (whole u) p q × TakesFew 6 p q
  plain_puts e number =
      (record { same = number.same; put = plain_put fits size.0 e number.put }, puts_few 6 number (omega (arith, few_of size.1)))

-- ---- a number of several

pub ninth : (k : ℕ) → k % 9 ≡ 8 → 10 ≡ parting k
unfolding parting
ninth k e = rw (eq-eqb (k % 9) 8 e)

pub not_ninth : (k : ℕ) → k % 9 ≢ 8 → 32 ≡ parting k
unfolding parting
not_ninth k ne = rw (ne_eqb (k % 9) 8 ne)

pub unit_put : (units : List ℤ) (k : ℕ) {u : ℤ} → u ≡ get_or units k (pos 0) → {b : ℕ} → b ≡ parting k
    → {d d' d'' : List ℕ} {at n m : ℕ} → Put (whole u) d at d' n → Put (b ∷ []) d' n d'' m → Put (unit_text units k) d at d'' m
unfolding unit_text
unit_put units k eu eb p q = rw (← eu, ← eb) (put_more p q)
