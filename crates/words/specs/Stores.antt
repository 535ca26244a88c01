-- Bytes that are copied or filled at a place, as stores one after the other.
use Rattle.std.specs.Prelude.{◌≡◌, List, ℕ, ◌+◌, ◌-◌, ◌≤◌, length}
use Rattle.std.proofs.Common.{sym, ◌∙◌, arith}
use Rattle.std.proofs.lemmas.List.{take_all}
use Rattle.std.proofs.lemmas.List.Edits.{sets, sets-eq}
use Rattle.std.proofs.lemmas.Slice.{put_mid-paste}
use borrow.Rule.Slice.PartMut.{put_mid}

pub stored : (bytes new run : List ℕ) (place k : ℕ) → new ≡ run → length run ≡ k → place + k ≤ length bytes → put_mid place (place + k - place) bytes new ≡ sets bytes place run
stored bytes new run place k is all room =
    put_mid-paste place (place + k - place) bytes new run k is (omega arith) (sym all)
    ∙ rw (take_all k run (omega (arith, all))) (rw (← all) (sym (sets-eq run bytes place (omega (arith, all)))))
