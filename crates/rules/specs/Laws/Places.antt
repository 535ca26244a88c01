-- Places, m to a row: place p is the place p % m of row p / m.
use Rattle.std.specs.Prelude.{◌≡◌, ℕ, ◌+◌, ◌*◌, ◌/◌, ◌%◌, ◌<◌}
use Rattle.std.proofs.Common.{◌∙◌, mod-eq_of_lt, div-lt_iff_lt-mul, mul_comm, add-zero, mul-le-mul_left, mul-suc, arith}
use Rattle.std.proofs.Math.Nat.{div-eq_of_lt, mul-add-div, mul-add-mod_self_left}

module _ {m : ℕ} (pos : 0 < m) where
  pub row_of : (s e : ℕ) → e < m → (m * s + e) / m ≡ s
  row_of s e l = mul-add-div pos s e ∙ rw (div-eq_of_lt l) (add-zero s)

  pub within_row : (s e : ℕ) → e < m → (m * s + e) % m ≡ e
  within_row s e l = mul-add-mod_self_left m s e ∙ mod-eq_of_lt l

  pub row_below : (n p : ℕ) → p < m * n → p / m < n
  row_below n p l = (div-lt_iff_lt-mul pos).1 (rw (mul_comm n m) l)

  -- the places of a row are before those of the rows after it
  pub place_below : (n r e : ℕ) → r < n → e < m → m * r + e < m * n
  place_below n r e l k = omega (arith, mul-le-mul_left m l, mul-suc m r)
