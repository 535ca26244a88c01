-- What is said of a job: the STL file of its skin, or why it is refused.
use Rattle.std.specs.Prelude.{Bool, not, cond, List, ℕ, eqb, replicate}
use Rattle.rules.specs.Job.{track, job_of, Result}
use Rattle.rules.specs.Stl.{most_facets, file_length, skin_file, write_skin}
use Rattle.lines.specs.Listing.{refused_text, zeros}

-- the answer of the job's writer, in buffers that no job finds short
unfoldable pub skin_answer : List ℕ → Result
skin_answer job = (write_skin track job zeros (replicate (file_length most_facets) 0)).result

unfoldable pub skin_refused : List ℕ → Bool
skin_refused job = not (eqb (skin_answer job).code 0)

-- the file; or `refused`, code and place
unfoldable pub skin_said : List ℕ → List ℕ
skin_said job = cond (skin_refused job) (refused_text (skin_answer job).code (skin_answer job).place) (skin_file (job_of track job))
