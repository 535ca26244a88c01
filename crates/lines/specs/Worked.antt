-- Listings that antt computes: document 01's of A, that of a refused job, and the lines of two facets.
use Rattle.std.specs.Prelude.{◌≡◌, refl, List, [], ◌∷◌, ◌++◌, ℤ, pos, neg_ℤ, set}
use Rattle.rules.specs.Points.{below_zero}
use Rattle.rules.specs.Below.{gather}
use Rattle.rules.specs.Worked.{ran, job, table_a, marked}
use Rattle.rules.specs.Worked.Document.{job_a, proposals_a}
use Rattle.lines.specs.Listing.{ascii, spelled, decimal, spaced, line, answer_line, answer_lines, triangle_line, triangle_lines, done_text, refused_text, listing, zeros, listing_of}
use Rattle.lines.specs.Facets.{whole, parting, unit_text, facets_text}

-- A whole
pub listing_A : listing_of job_a ≡
    ascii "done 7 3 4\n"
    ++ ascii "p 0 0\n"
    ++ ascii "p 1 4\n"
    ++ ascii "p 2 3\n"
    ++ ascii "p 3 0\n"
    ++ ascii "p 4 2\n"
    ++ ascii "p 5 1\n"
    ++ ascii "p 6 0\n"
    ++ ascii "t 2 3 4\n"
    ++ ascii "t 1 3 4\n"
    ++ ascii "t 1 2 4\n"
    ++ ascii "t 1 2 3\n"
unfolding ran listing_of listing zeros done_text refused_text triangle_lines triangle_line answer_lines answer_line line spaced decimal spelled
listing_A = refl

-- A with mark 2 on row 3
pub listing_refused : listing_of (job 5 table_a (set (marked 5 []) 3 2) proposals_a) ≡ ascii "refused 10 3\n"
unfolding ran listing_of listing zeros done_text refused_text triangle_lines triangle_line answer_lines answer_line line spaced decimal spelled
listing_refused = refl

-- ---- facets, nine units a line

abbrev pub units_a : List ℤ
units_a = neg_ℤ (pos 1023) ∷ pos 0 ∷ pos 1023 ∷ neg_ℤ (pos 1) ∷ pos 16 ∷ neg_ℤ (pos 10) ∷ pos 9 ∷ pos 10 ∷ neg_ℤ (pos 100) ∷ []

abbrev pub units_b : List ℤ
units_b = pos 0 ∷ pos 0 ∷ pos 0 ∷ pos 32767 ∷ neg_ℤ (pos 32768) ∷ pos 7 ∷ neg_ℤ (pos 9) ∷ pos 99 ∷ pos 1 ∷ []

pub listing_facets : facets_text (units_a ++ units_b) ≡ ascii "-1023 0 1023 -1 16 -10 9 10 -100\n" ++ ascii "0 0 0 32767 -32768 7 -9 99 1\n"
unfolding facets_text unit_text whole parting below_zero decimal spelled gather
listing_facets = refl

-- no facets
pub listing_no_facets : facets_text [] ≡ []
unfolding facets_text gather
listing_no_facets = refl
