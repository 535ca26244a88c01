-- Job files made from their parts: they are laid out, and what is read back from them is what was put in.
use Rattle.std.specs.Prelude.{◌≡◌, ℕ, ◌+◌, ◌-◌, ◌*◌, ◌^◌, ◌≤◌, ◌<◌, take}
use Rattle.std.proofs.Math.Path.{refl, sym}
use Rattle.std.proofs.Common.{◌∙◌, arith, length-take-le, get_or-take}
use mathlib.Core.List.{List, ◌++◌, append_assoc}
use Rattle.std.proofs.Math.ListN.{length, length-append}
use borrow.Author.Tests.{le-ltb}
use Rattle.rules.specs.Below.{found}
use Rattle.rules.specs.First.{given, first_match}
use Rattle.rules.specs.Proposals.{Proposal}
use Rattle.rules.specs.Job.{Form, Header, header_of, row_bytes, rows_at, marks_at, proposals_at, points_at, whole_length, section, proposal_in, job_of, layout_tests}
use Rattle.rules.specs.Made.{header_bytes, proposal_bytes, with_proposals, remade_job, cut_job, points_section, cut_to, remade}
use Rattle.rules.specs.Laws.Lists.{Among, tabulate_is}
use Rattle.rules.specs.Laws.Job.{job_proposals}
use Rattle.rules.specs.Reading.Codes.{WithinLimits, limits_read, LaidOut}
use Rattle.rules.proofs.Reading.Codes.{laid_out_reads}
use Rattle.rules.specs.Reading.File.{proposal_part, proposal_stands}
use Rattle.rules.specs.Laws.Made.{Fits, header_long, made_word, made_header, made_job, blank, proposals_long, proposal_at, first_parts, points_are, order_is, fewer, within_file, rows_long, points_long}

-- ---- a file of a header, rows, marks and proposals

module _ (f : Form) (h : Header) (fits : Fits f h) where
  made_laid : (rest : List ℕ) → rows_at + length rest ≡ whole_length f h → (first_match 1 (layout_tests f (header_bytes f h ++ rest))).code ≡ 0
  unfolding layout_tests first_match given found
  made_laid rest whole =
      let bytes = header_bytes f h ++ rest in
      let at = made_word f h fits rest in
      let long : length bytes ≡ whole_length f h = omega (arith, length-append (header_bytes f h) rest, header_long f h) in
      let laid : LaidOut f h bytes = (((((at 3 (omega arith), at 4 (omega arith)), at 5 (omega arith)), at 6 (omega arith)), fits.mode), at 6 (omega arith) ∙ sym long) in
      simp (made_header f h fits rest, le-ltb (length bytes) rows_at (omega arith), (limits_read f h).1 fits.limits, (laid_out_reads f h bytes).1 laid)

-- ---- a laid-out file made over

module _ (f : Form) (bytes : List ℕ) (limits : WithinLimits f (header_of bytes)) (laid : LaidOut f (header_of bytes) bytes) (mode_small : f.mode + 3 < 256 ^ 4)
    (small : whole_length f (header_of bytes) < 256 ^ 4) where
  -- cut to its first k proposals
  module _ (k : ℕ) (few : k ≤ (header_of bytes).proposals) where
    pub cut_laid : (first_match 1 (layout_tests f (cut_to f k bytes))).code ≡ 0
    unfolding cut_to
    cut_laid =
        let h = with_proposals (header_of bytes) k in
        made_laid f h (fewer f bytes limits laid mode_small small k few) _
        (omega (arith, length-append (section bytes rows_at (points_at f h - rows_at)) (points_section f bytes), within_file f bytes limits laid mode_small small rows_at (points_at f h - rows_at) (omega arith), points_long f bytes limits laid mode_small small k))

    pub cut_job_lem : job_of f (cut_to f k bytes) ≡ cut_job k (job_of f bytes)
    unfolding cut_to job_of
    cut_job_lem =
        let h = with_proposals (header_of bytes) k in
        let proposals = (job_of f bytes).proposals in
        rw (
          first_parts f bytes h,
          append_assoc,
          append_assoc,
          made_job f h (fewer f bytes limits laid mode_small small k few) (section bytes rows_at (row_bytes f * h.rows)) (section bytes (marks_at f h) h.rows) (section bytes (proposals_at f h) (8 * k)) (points_section f bytes)
              (rows_long f bytes limits laid mode_small small) (within_file f bytes limits laid mode_small small (marks_at f h) h.rows (omega arith)) (within_file f bytes limits laid mode_small small (proposals_at f h) (8 * k) (omega arith)) (points_long f bytes limits laid mode_small small k),
          points_are f bytes limits laid mode_small small k (points_section f bytes),
          order_is f bytes limits laid mode_small small k,
          tabulate_is k (proposal_in (section bytes (proposals_at f h) (8 * k))) blank (take k proposals) (length-take-le k proposals (rw (job_proposals f bytes) few)) (λ i l.
              proposal_part bytes (proposals_at f h) (8 * k) i (omega arith) ∙ sym (proposal_stands f bytes blank i (omega arith)) ∙ sym (get_or-take k proposals i blank l)),
        )

  -- with other marks and proposals
  module _ (marks : List ℕ) (each : length marks ≡ (header_of bytes).rows) (proposals : List Proposal) (few : length proposals ≤ (header_of bytes).proposals) where
    pub remade_laid : (first_match 1 (layout_tests f (remade f marks proposals bytes))).code ≡ 0
    unfolding remade
    remade_laid =
        made_laid f (with_proposals (header_of bytes) (length proposals)) (fewer f bytes limits laid mode_small small (length proposals) few) _
        (simp (length-append, rows_long f bytes limits laid mode_small small, proposals_long, points_long f bytes limits laid mode_small small (length proposals)) (omega arith))

    pub remade_job_lem : ((p : Proposal) → Among p proposals → (p.row < 256 ^ 4) × (p.kind < 256 ^ 4))
        → job_of f (remade f marks proposals bytes) ≡ remade_job marks proposals (job_of f bytes)
    unfolding remade job_of
    remade_job_lem fit =
        let h = with_proposals (header_of bytes) (length proposals) in
        rw (
          made_job f h (fewer f bytes limits laid mode_small small (length proposals) few) (section bytes rows_at (row_bytes f * h.rows)) marks (proposal_bytes proposals) (points_section f bytes) (rows_long f bytes limits laid mode_small small) each (proposals_long proposals)
              (points_long f bytes limits laid mode_small small (length proposals)),
          points_are f bytes limits laid mode_small small (length proposals) (points_section f bytes),
          order_is f bytes limits laid mode_small small (length proposals),
          tabulate_is (length proposals) (proposal_in (proposal_bytes proposals)) blank proposals refl (proposal_at proposals fit),
        )
