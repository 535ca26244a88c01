use Rattle.std.proofs.Common.{◌∙◌, ap, rules, arith, ℕ, ◌*◌}
use Rattle.table.specs.Chains.{link_threaded, none_threaded}
use Rattle.table.specs.Faces.{key_of, key_below}
use Rattle.table.specs.Places.{places_fit}
use Rattle.table.specs.Faces.{each_of, kind_of}
use Rattle.table.proofs.chains.Chains.thread.Goals as goal

pub loop-place-init : goal.loop-place-init
loop-place-init c = none_threaded _ _ _ (ap (λ (n : ℕ). n * c.row_count.result) c.each.ensures ∙ ap (λ (n : ℕ). each_of c.args.kind * n) c.row_count.ensures)

pub link-requires : goal.link-requires
link-requires c =
    (rw c.key.ensures (key_below _), omega (arith, places_fit (kind_of c.args.kind) c.requires, ap (λ (n : ℕ). n * c.row_count.result) c.each.ensures ∙ ap (λ (n : ℕ). each_of c.args.kind * n) c.row_count.ensures))

pub loop-place-preserved : goal.loop-place-preserved
loop-place-preserved c =
    link_threaded _ _ _ _ _ _ _ _ (search rules) (search rules) (c.key.ensures ∙ ap key_of c.face_at.ensures) (rw c.key.ensures (key_below _)) c.loop-place.self.room.0 (rw c.loop-place.self.room.1 (places_fit (kind_of c.args.kind) c.requires)) c.loop-place.invariant c.link.ensures.0 c.link.ensures.1
