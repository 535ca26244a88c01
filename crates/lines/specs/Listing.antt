-- The text that document 01 has printed of a job, in ASCII.
use Rattle.std.specs.Prelude.{ℕ, zero, suc, ◌+◌, ◌*◌, ◌/◌, ◌%◌, cond, List, [], ◌∷◌, ◌++◌, ltb, eqb, get_or, replicate}
use Prim.Native.Char.{code}
use Prim.Native.String.{String, [] as empty, ◌∷◌ as ◌then◌}
use Rattle.rules.specs.Below.{gather}
use Rattle.rules.specs.Job.{track, Header, header_of, most_ids, most_rows, most_proposals, Lent, work_room, list_room, Result, run}

-- the codes of a text's characters
abbrev pub ascii : String → List ℕ
ascii empty = []
ascii (character then text) = code character ∷ ascii text

-- ---- lines

-- the digits of n, if they are not more than `most`; the digit 0 is 48
unfoldable pub spelled : ℕ → ℕ → List ℕ
spelled zero n = []
spelled (suc most) n =
    let several = spelled most (n / 10) ++ ((48 + n % 10) ∷ []) in
    cond (ltb n 10) ((48 + n) ∷ []) several

-- decimal, and n has not more than n + 1 digits
unfoldable pub decimal : ℕ → List ℕ
decimal n = spelled (suc n) n

-- a single space, which is 32, before each number
unfoldable pub spaced : List ℕ → List ℕ
spaced [] = []
spaced (n ∷ ns) = (32 ∷ decimal n) ++ spaced ns

-- a word and numbers, ended by a newline, which is 10
unfoldable pub line : List ℕ → List ℕ → List ℕ
line word numbers = (word ++ spaced numbers) ++ 10 ∷ []

-- ---- the words

abbrev pub word_done : List ℕ
word_done = ascii "done"

abbrev pub word_refused : List ℕ
word_refused = ascii "refused"

abbrev pub word_p : List ℕ
word_p = ascii "p"

abbrev pub word_t : List ℕ
word_t = ascii "t"

-- ---- the listing

-- for each proposal `p`, its number from 0, its answer
unfoldable pub answer_line : List ℕ → ℕ → List ℕ
answer_line answers k = line word_p (k ∷ get_or answers k 0 ∷ [])

unfoldable pub answer_lines : List ℕ → ℕ → List ℕ
answer_lines answers n = gather n (answer_line answers)

-- for each triangle `t` and three ids
unfoldable pub triangle_line : List ℕ → ℕ → List ℕ
triangle_line ids k = line word_t (get_or ids (3 * k) 0 ∷ get_or ids (3 * k + 1) 0 ∷ get_or ids (3 * k + 2) 0 ∷ [])

unfoldable pub triangle_lines : List ℕ → ℕ → List ℕ
triangle_lines ids n = gather n (triangle_line ids)

-- `done`, P, taken, triangles; then the proposals and the triangles
unfoldable pub done_text : ℕ → ℕ → ℕ → List ℕ → List ℕ → List ℕ
done_text proposals taken triangles answers ids =
    (line word_done (proposals ∷ taken ∷ triangles ∷ []) ++ answer_lines answers proposals) ++ triangle_lines ids triangles

-- `refused`, code, place and no more
unfoldable pub refused_text : ℕ → ℕ → List ℕ
refused_text code place = line word_refused (code ∷ place ∷ [])

-- of a job of P proposals, by what its run gave
unfoldable pub listing : ℕ → Result → List ℕ
listing proposals r =
    cond (eqb r.code 0)
    (done_text proposals r.taken r.triangles r.left.answers r.left.triangles)
    (refused_text r.code r.place)

-- the counts of the largest job
abbrev pub largest : Header
largest = record { ids = most_ids; rows = most_rows; proposals = most_proposals; mode = track.mode }

-- buffers that no job finds short, filled with zeros
unfoldable pub zeros : Lent
zeros = record {
  answers = replicate largest.proposals 0;
  final_marks = replicate largest.rows 0;
  triangles = replicate (list_room track largest) 0;
  work = replicate (work_room track largest) 0;
}

-- of a job, by its bytes: each triangle in the order that word 7 asks for
unfoldable pub listing_of : List ℕ → List ℕ
listing_of job = listing (header_of job).proposals (run track job zeros)
