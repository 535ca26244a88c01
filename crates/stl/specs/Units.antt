-- The units that a number says, and units that are written one by one.
use Rattle.std.specs.Prelude.{◌≡◌, refl, Bool, true, false, List, ℕ, ◌+◌, ◌≤◌, ◌<◌, ℤ, pos, length, set, Result}
use Rattle.std.proofs.Common.{sym, ap, ◌∙◌, arith, length-set}
use Rattle.rules.specs.Below.{gather, tabulate}
use Rattle.rules.specs.Job.{written}
use Rattle.rules.specs.Stl.{bits_off, units_of}
use Rattle.rules.specs.Laws.Written.{written_more}
use Rattle.grid.specs.Named.{off_zero}
use Rattle.grid.specs.Numbers.{read}
use Rattle.std.specs.Result.{result_unwrap_or}
use Rattle.grid.specs.declared.OffGrid.{OffGrid}

-- its units, or zero
abbrev pub units_said : Result ℤ OffGrid → ℤ
units_said said = result_unwrap_or said (pos 0)

pub units_said_lem : (bits facet : ℕ) → units_said (read bits facet) ≡ units_of bits
unfolding read
units_said_lem bits facet = go (bits_off bits) refl
  where
    go : (b : Bool) → bits_off bits ≡ b → units_said (read bits facet) ≡ units_of bits
    go true off = rw off (sym (off_zero bits off))
    go false on = rw on

-- i of n units are written, and nothing behind them is changed
pub record Filled (unit : ℕ → ℤ) (lent : List ℤ) (n i : ℕ) (units : List ℤ) : Type 0 where
  pub upto : i ≤ n
  pub room : n ≤ length lent
  pub kept : length units ≡ length lent
  pub is : units ≡ written (tabulate i unit) lent

pub fill_begins : (unit : ℕ → ℤ) (lent : List ℤ) (n : ℕ) → n ≤ length lent → Filled unit lent n 0 lent
unfolding written tabulate gather
fill_begins unit lent n room = record { upto = omega arith; room = room; kept = refl; is = refl }

pub fill_turn : {unit : ℕ → ℤ} {lent units : List ℤ} {n i : ℕ} → Filled unit lent n i units → i < n → {u : ℤ} → u ≡ unit i → Filled unit lent n (i + 1) (set units i u)
fill_turn {unit} {lent} {units} {n} {i} filled l {u} e = record {
  upto = omega arith;
  room = filled.room;
  kept = length-set units i u ∙ filled.kept;
  is = ap (λ (xs : List ℤ). set xs i u) filled.is ∙ ap (set (written (tabulate i unit) lent) i) e ∙ written_more i unit lent (omega (arith, filled.room));
}

pub fill_ends : {unit : ℕ → ℤ} {lent units : List ℤ} {n i : ℕ} → Filled unit lent n i units → n ≤ i → units ≡ written (tabulate n unit) lent
fill_ends {unit} {lent} {units} {n} {i} filled l =
    let all : i ≡ n = omega (arith, filled.upto) in
    filled.is ∙ ap (λ (k : ℕ). written (tabulate k unit) lent) all
