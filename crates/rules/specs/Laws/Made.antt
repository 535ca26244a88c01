-- Job files made from their parts: what is read back from them is what was put in.
use Rattle.std.specs.Prelude.{◌≡◌, ◌⊎◌, ℕ, zero, suc, ◌+◌, ◌-◌, ◌*◌, ◌^◌, ◌≤◌, ◌<◌, get_or, drop}
use Rattle.std.proofs.Math.Path.{refl, sym}
use Rattle.std.proofs.Common.{◌∙◌, ⊎_elim, not-suc-le-zero, le_of_suc-le-suc, arith, take-add, drop-drop}
use mathlib.Core.List.Memᴰ
use mathlib.Core.List.{List, [], ◌∷◌, ◌++◌}
use Rattle.std.proofs.Math.ListN.{length}
use Rattle.std.proofs.Math.Seq.{take_at, drop_at, take_all}
use Rattle.rules.specs.Below.{tabulate}
use Rattle.rules.specs.Words.{words}
use Rattle.rules.specs.Proposals.{Proposal}
use Rattle.rules.specs.Job.{Form, track, Header, header_word, header_of, row_bytes, rows_at, marks_at, proposals_at, points_at, has_points, asks_outward, point_bytes, whole_length, section, rows_table, proposal_in, points_of, job_of}
use Rattle.rules.specs.Made.{header_words, header_bytes, proposal_bytes, with_proposals, points_section, cut_to, remade}
use Rattle.rules.specs.Laws.Lists.{Among, part_length}
use Rattle.rules.specs.Laws.Words.{word_after, words_at}
use Rattle.rules.specs.Laws.Job.{points_few}
use Rattle.rules.specs.Reading.Codes.{WithinLimits, WithPoints, LaidOut}

-- ---- a file of a header, rows, marks and proposals

-- a header within its limits, each of whose words fits four bytes
pub record Fits (f : Form) (h : Header) : Type 0 where
  pub limits : WithinLimits f h
  pub mode : (h.mode ≡ f.mode) ⊎ WithPoints f h
  pub mode_small : h.mode < 256 ^ 4
  pub small : whole_length f h < 256 ^ 4

pub header_long : (f : Form) (h : Header) → length (header_bytes f h) ≡ rows_at
unfolding header_bytes
header_long f h = refl

-- what stands after a part that stands at a place
drop_next : (l xs ys : List ℕ) (place n : ℕ) → drop place l ≡ xs ++ ys → length xs ≡ n → drop (place + n) l ≡ ys
drop_next l xs ys place n e long = rw (← drop-drop n place l, e) (drop_at xs ys n long)

module _ (f : Form) (h : Header) (fits : Fits f h) where
  -- word i of the header
  pub made_word : (rest : List ℕ) (i : ℕ) → (i < 8) × (get_or (header_words f h) i 0 < 256 ^ 4) → header_word (header_bytes f h ++ rest) i ≡ get_or (header_words f h) i 0
  unfolding header_bytes
  made_word rest i (l, small) = words_at (header_words f h) rest i l small

  pub made_header : (rest : List ℕ) → header_of (header_bytes f h ++ rest) ≡ h
  unfolding header_of
  made_header rest =
      let at = made_word rest in
      λ i. record { ids = at 0 (omega arith) i; rows = at 1 (omega arith) i; proposals = at 2 (omega arith) i; mode = at 7 (omega arith) i }

  module _ (rows marks proposals points : List ℕ) (rows_long : length rows ≡ row_bytes f * h.rows) (marks_long : length marks ≡ h.rows) (proposals_long : length proposals ≡ 8 * h.proposals)
      (points_long : length points ≡ point_bytes f h) where
    pub made_job : job_of f (header_bytes f h ++ (rows ++ (marks ++ (proposals ++ points)))) ≡ record {
      ids = h.ids;
      table = rows_table f h.rows rows;
      marks = marks;
      proposals = tabulate h.proposals (proposal_in proposals);
      points = points_of f h points;
      outward = asks_outward f h;
    }
    unfolding job_of
    made_job =
        let bytes = header_bytes f h ++ (rows ++ (marks ++ (proposals ++ points))) in
        let from_rows = drop_at (header_bytes f h) (rows ++ (marks ++ (proposals ++ points))) rows_at (header_long f h) in
        let from_marks = drop_next bytes rows (marks ++ (proposals ++ points)) rows_at (row_bytes f * h.rows) from_rows rows_long in
        let from_proposals = drop_next bytes marks (proposals ++ points) (marks_at f h) h.rows from_marks marks_long in
        let from_points = drop_next bytes proposals points (proposals_at f h) (8 * h.proposals) from_proposals proposals_long in
        rw (
          made_header (rows ++ (marks ++ (proposals ++ points))),
          from_rows,
          from_marks,
          from_proposals,
          from_points,
          take_at rows (marks ++ (proposals ++ points)) (row_bytes f * h.rows) rows_long,
          take_at marks (proposals ++ points) h.rows marks_long,
          take_at proposals points (8 * h.proposals) proposals_long,
          take_all (point_bytes f h) points (omega arith),
        )

-- ---- proposals written down

abbrev pub blank : Proposal
blank = record { row = 0; kind = 0 }

pub proposals_long : (ps : List Proposal) → length (proposal_bytes ps) ≡ 8 * length ps
unfolding proposal_bytes
proposals_long [] = refl
proposals_long (p ∷ ps) = omega (arith, proposals_long ps)

pub proposal_at : (ps : List Proposal) → ((p : Proposal) → Among p ps → (p.row < 256 ^ 4) × (p.kind < 256 ^ 4)) → (k : ℕ) → k < length ps
    → proposal_in (proposal_bytes ps) k ≡ get_or ps k blank
unfolding proposal_in proposal_bytes
proposal_at [] small k l = absurd (not-suc-le-zero l)
proposal_at (p ∷ ps) small zero l =
    let at = words_at (p.row ∷ p.kind ∷ []) (proposal_bytes ps) in
    let fits = small p (Memᴰ.head refl) in
    λ i. record { row = at 0 (omega arith) fits.0 i; kind = at 1 (omega arith) fits.1 i }
proposal_at (p ∷ ps) small (suc k) l =
    let after = word_after 4 (words (p.row ∷ p.kind ∷ [])) (proposal_bytes ps) in
    rw (after (8 * suc k) (8 * k) (omega arith), after (8 * suc k + 4) (8 * k + 4) (omega arith)) (proposal_at ps (λ q m. small q (Memᴰ.tail m)) k (le_of_suc-le-suc l))

-- ---- a laid-out file made over

-- the rows, the marks and so many proposals of a file, one after the other
pub first_parts : (f : Form) (bytes : List ℕ) (h : Header)
    → section bytes rows_at (points_at f h - rows_at)
    ≡ section bytes rows_at (row_bytes f * h.rows) ++ (section bytes (marks_at f h) h.rows ++ section bytes (proposals_at f h) (8 * h.proposals))
first_parts f bytes h =
    let whole : points_at f h - rows_at ≡ row_bytes f * h.rows + (h.rows + 8 * h.proposals) = omega arith in
    rw (whole, take-add, take-add, drop-drop, drop-drop)

module _ (f : Form) (bytes : List ℕ) (limits : WithinLimits f (header_of bytes)) (laid : LaidOut f (header_of bytes) bytes) (mode_small : f.mode + 3 < 256 ^ 4)
    (small : whole_length f (header_of bytes) < 256 ^ 4) where
  -- as many points, however many proposals
  same_points : (k : ℕ) → point_bytes f (with_proposals (header_of bytes) k) ≡ point_bytes f (header_of bytes)
  unfolding point_bytes has_points
  same_points k = refl

  pub points_are : (k : ℕ) (points : List ℕ) → points_of f (with_proposals (header_of bytes) k) points ≡ points_of f (header_of bytes) points
  unfolding points_of has_points
  points_are k points = refl

  pub order_is : (k : ℕ) → asks_outward f (with_proposals (header_of bytes) k) ≡ asks_outward f (header_of bytes)
  unfolding asks_outward
  order_is k = refl

  pub fewer : (k : ℕ) → k ≤ (header_of bytes).proposals → Fits f (with_proposals (header_of bytes) k)
  fewer k few = record {
    limits = (limits.0, omega (arith, limits.1));
    mode = laid.0.1;
    mode_small = ⊎_elim (λ e. omega (arith, e)) (⊎_elim (λ e. omega (arith, e)) (λ e. omega (arith, e))) laid.0.1;
    small = omega (arith, same_points k);
  }

  pub within_file : (start size : ℕ) → start + size ≤ whole_length f (header_of bytes) → length (section bytes start size) ≡ size
  within_file start size l = part_length bytes start size (omega (arith, laid.1, laid.0.0.1))

  pub rows_long : length (section bytes rows_at (row_bytes f * (header_of bytes).rows)) ≡ row_bytes f * (header_of bytes).rows
  rows_long = within_file rows_at (row_bytes f * (header_of bytes).rows) (omega arith)

  pub points_long : (k : ℕ) → length (points_section f bytes) ≡ point_bytes f (with_proposals (header_of bytes) k)
  points_long k = within_file (points_at f (header_of bytes)) (point_bytes f (header_of bytes)) (omega arith) ∙ sym (same_points k)

  -- cut to its first k proposals
  module _ (k : ℕ) (few : k ≤ (header_of bytes).proposals) where
    pub cut_header : header_of (cut_to f k bytes) ≡ with_proposals (header_of bytes) k
    unfolding cut_to
    cut_header = made_header f (with_proposals (header_of bytes) k) (fewer k few) _

  -- with other marks and proposals
  module _ (marks : List ℕ) (each : length marks ≡ (header_of bytes).rows) (proposals : List Proposal) (few : length proposals ≤ (header_of bytes).proposals) where
    pub remade_header : header_of (remade f marks proposals bytes) ≡ with_proposals (header_of bytes) (length proposals)
    unfolding remade
    remade_header = made_header f (with_proposals (header_of bytes) (length proposals)) (fewer (length proposals) few) _

pub track_small : (h : Header) → WithinLimits track h → whole_length track h < 256 ^ 4
track_small h limits = omega (arith, points_few track h)
