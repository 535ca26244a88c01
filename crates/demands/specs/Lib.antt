-- The three demands, and what document 02 promises beside them, over `track::run` itself; and what it promises of STL, over the three calls.
--     Demands  the page to read: all of it, of one run
--     Given    demand 1 is kept
--     Grown    demand 2 is kept
--     Rings    demand 3 is kept
--     Finite   document 02 (ii) is kept: the skin is finite
--     Outwards document 02 (iii) and (v) are kept: the skin in the order asked for
--     Tallies  document 02 (vii) is kept: corner tallies in the work area
--     Kept     all of it follows from the contract of `track::run`, and says all that it says
--     Settled  each public call leaves one possible result
--     ShutOut  versions that the demands shut out
--     Workshop the page to read for document 02 (vi)
--     BothWays it is kept: numbers, writing then reading, and reading then writing
--     Exports  it is kept: the file of a job's skin
pub mod Demands
pub mod Given
pub mod Grown
pub mod Rings
pub mod Finite
pub mod Outwards
pub mod Tallies
pub mod Kept
pub mod Settled
pub mod ShutOut
pub mod Workshop
pub mod BothWays
pub mod Exports
