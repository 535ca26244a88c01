-- What the code of `stl` means beyond `rules`, and the laws by which it is proved:
--     Corners  corners of three f32, in bytes and in a list of units
--     Filling  a file that is filled facet by facet
--     Writing  the facet writer's answer, as `rules` has it
--     Faults   what is wrong with a facet
--     Reading  the reader's answer, as `rules` has it
--     Search   the search for the first facet at fault
--     Units    the units that a number says, and units that are written one by one
pub mod Corners
pub mod Filling
pub mod Writing
pub mod Faults
pub mod Reading
pub mod Search
pub mod Units
