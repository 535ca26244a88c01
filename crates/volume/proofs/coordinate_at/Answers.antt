use Rattle.std.proofs.Common.{ap, arith, to_z-of_z, rules, get_or, ℕ, ◌+◌, ◌*◌}
use Rattle.std.specs.Int.{w16}
use Rattle.rules.specs.Points as R
use Rattle.rules.specs.Words.{word}
use Rattle.volume.specs.Bound.{Exact, read_most, again, restated, signed_read}
use Rattle.volume.proofs.coordinate_at.Goals as goal

pub returns : goal.returns
unfolding R.coordinate word
returns c =
    let b = c.args.bytes.now in
    let at = c.args.place in
    let w : ℕ = get_or b at 0 + get_or b (at + 1) 0 * 256 in
    let read : Exact read_most c.from.result (R.signed w) = rw (c.from.ensures, to_z-of_z {w = w16} {z = c.from_le_bytes.result} (search rules), c.from_le_bytes.ensures) (signed_read w (omega (arith, (c.type_inv.bytes at).fits, (c.type_inv.bytes (at + 1)).fits))) in
    again (restated read (ap R.signed (omega arith))) tt
