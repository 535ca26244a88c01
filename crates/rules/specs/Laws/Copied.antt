-- A list copied to the front of a buffer, number by number.
use Rattle.std.specs.Prelude.{◌≡◌, List, ℕ, ◌+◌, ◌≤◌, ◌<◌, length, get_or, set, take}
use Rattle.std.proofs.Common.{sym, ap, ◌∙◌, le_antisymm, add-one, arith, length-set, length-take-le, take-suc}
use Rattle.std.proofs.Math.Seq.{take-length}
use Rattle.rules.specs.Job.{written}
use Rattle.rules.specs.Laws.Written.{written_none, written_snoc}

-- i numbers are copied
pub record Copied (from to to₀ : List ℕ) (i : ℕ) : Type 0 where
  pub upto : i ≤ length from
  pub kept : length to ≡ length to₀
  pub front : to ≡ written (take i from) to₀

pub copy_begins : (from to : List ℕ) → Copied from to to 0
copy_begins from to = record { upto = omega arith; kept = omega arith; front = written_none to }

pub copy_turn : {from to to₀ : List ℕ} {i : ℕ} → Copied from to to₀ i → i < length from → length from ≤ length to₀ → Copied from (set to i (get_or from i 0)) to₀ (i + 1)
copy_turn {from} {to} {to₀} {i} c l room = record {
  upto = omega arith;
  kept = length-set to i (get_or from i 0) ∙ c.kept;
  front = ap (λ (xs : List ℕ). set xs i (get_or from i 0)) c.front
      ∙ ap (λ (k : ℕ). set (written (take i from) to₀) k (get_or from i 0)) (sym full)
      ∙ written_snoc (take i from) (get_or from i 0) to₀ (rw full (omega arith))
      ∙ ap (λ (xs : List ℕ). written xs to₀) (sym (take-suc from i 0 l)) ∙ ap (λ (k : ℕ). written (take k from) to₀) (sym (add-one i));
}
  where
    full : length (take i from) ≡ i
    full = length-take-le i from (omega arith)

pub copy_ends : {from to to₀ : List ℕ} {i : ℕ} → Copied from to to₀ i → length from ≤ i → to ≡ written from to₀
copy_ends {from} {to₀ = to₀} c l =
    c.front ∙ ap (λ (k : ℕ). written (take k from) to₀) (le_antisymm c.upto l) ∙ ap (λ (xs : List ℕ). written xs to₀) (take-length from)
