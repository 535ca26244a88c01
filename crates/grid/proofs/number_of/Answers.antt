use Rattle.std.proofs.Common.{◌≡◌, ℕ, true, ℤ, sym, ap, ◌∙◌, Float}
use Rattle.std.specs.Float.{binary32}
use Rattle.std.specs.Float.Ieee.{of_bits, neg, le, mul, to_signed}
use Rattle.grid.specs.Numbers.{read}
use Rattle.grid.specs.Steps.{small, reads_units, low_off, high_off, other_off, grid_fits, grid_wide, grid_cast}
use Rattle.grid.specs.Sweep.{times}
use Rattle.grid.specs.declared.OffGrid.{OffGrid}
use Rattle.std.specs.Prelude.{Result, Ok, Err}
use Rattle.rules.specs.Points.{in_range}
use Rattle.rules.specs.Stl.{bits_of}
use Rattle.grid.proofs.number_of.Goals as goal

-- the number times 16, by its bits
product : (x : Float) (bits : ℕ) → x ≡ of_bits binary32 bits → mul binary32 x (of_bits binary32 0x4180_0000) ≡ times bits
unfolding times
product x bits e = ap (λ (f : Float). mul binary32 f (of_bits binary32 0x4180_0000)) e

-- off the grid, as it stood
abbrev found : Float → ℕ → ℕ → Result ℤ OffGrid
found x bits facet = Err (record { number = x; bits = bits; facet = facet })

stood : (x : Float) (bits facet : ℕ) → x ≡ of_bits binary32 bits → read bits facet ≡ found (of_bits binary32 bits) bits facet → found x bits facet ≡ read bits facet
stood x bits facet e off = ap (λ (f : Float). found f bits facet) e ∙ sym off

-- the whole part of a number that passes both tests is on the grid
given : (y : Float) (u : ℤ) → le (neg (of_bits binary32 0x447f_c000)) y ≡ true → le y (of_bits binary32 0x447f_c000) ≡ true → u ≡ to_signed 63 y → in_range u ≡ true
given y u low high is = ap in_range is ∙ (small y low high).on

pub truncating_f32_to_i64-units-requires-clause-lower_bound : goal.truncating_f32_to_i64-units-requires-clause-lower_bound
truncating_f32_to_i64-units-requires-clause-lower_bound c = (small _ c.if-y.true c.if-y-2.true).low

pub truncating_f32_to_i64-units-requires-clause-upper_bound : goal.truncating_f32_to_i64-units-requires-clause-upper_bound
truncating_f32_to_i64-units-requires-clause-upper_bound c = (small _ c.if-y.true c.if-y-2.true).high

pub overflow_cast-units : goal.overflow_cast-units
overflow_cast-units c =
    let u = c.truncating_f32_to_i64-units.result in
    let on = given _ u c.if-y.true c.if-y-2.true c.truncating_f32_to_i64-units.ensures in
    rw (grid_wide u on) (grid_fits u on)

pub bits_of-requires : goal.bits_of-requires
bits_of-requires c =
    let u = c.truncating_f32_to_i64-units.result in
    let on = given _ u c.if-y.true c.if-y-2.true c.truncating_f32_to_i64-units.ensures in
    ap in_range (grid_cast u on) ∙ on

pub returns-then-bits_of-bits : goal.returns-then-bits_of-bits
returns-then-bits_of-bits c =
    let u = c.truncating_f32_to_i64-units.result in
    let on = given _ u c.if-y.true c.if-y-2.true c.truncating_f32_to_i64-units.ensures in
    ap Ok (grid_cast u on) ∙ sym (reads_units c.args.bits c.args.facet u (on, sym c.if-bits_of-bits.true ∙ (c.bits_of.ensures ∙ ap bits_of (grid_cast u on))))

pub returns-else-bits_of-bits : goal.returns-else-bits_of-bits
returns-else-bits_of-bits c =
    let x = c.args.x in
    let bits = c.args.bits in
    let u = c.truncating_f32_to_i64-units.result in
    let on = given _ u c.if-y.true c.if-y-2.true c.truncating_f32_to_i64-units.ensures in
    let whole : u ≡ to_signed 63 (times bits) = c.truncating_f32_to_i64-units.ensures ∙ ap (to_signed 63) (product x bits c.requires) in
    stood x bits c.args.facet c.requires (other_off bits c.args.facet (λ e. c.if-bits_of-bits.false (c.bits_of.ensures ∙ ap bits_of (grid_cast u on) ∙ ap bits_of whole ∙ e)))

pub returns-else-y-2 : goal.returns-else-y-2
returns-else-y-2 c =
    let x = c.args.x in
    let bits = c.args.bits in
    stood x bits c.args.facet c.requires (high_off bits c.args.facet (ap (λ (f : Float). le f (of_bits binary32 0x447f_c000)) (sym (product x bits c.requires)) ∙ c.if-y-2.false))

pub returns-else-y : goal.returns-else-y
returns-else-y c =
    let x = c.args.x in
    let bits = c.args.bits in
    stood x bits c.args.facet c.requires (low_off bits c.args.facet (ap (le (neg (of_bits binary32 0x447f_c000))) (sym (product x bits c.requires)) ∙ c.if-y.false))
