-- Binary STL both ways: what is written is read back, and what is read is written back, for every list and every file. Here stand the
-- definitions and what doesn't rest on them; the theorems on them are in `proofs/`, so that a wrong definition is refused by a proof.
--     Silent     no code exactly if no test matches
--     Writable   the lists that the facet writer takes, in plain relations
--     Readable   the files that the reader takes, in plain relations
--     Parts      sections of a list of bytes
--     Worked     numbers off the grid and on it, and the file of the empty list; and as computed theorems
--                Worked.Skin     the job's writer: job A's whole file in both orders, empty skins, and the refusals
pub mod Silent
pub mod Writable
pub mod Readable
pub mod Parts
pub mod Worked
