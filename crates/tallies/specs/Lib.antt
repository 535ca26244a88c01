-- What the code of `tallies` means beyond `rules`, and the laws by which it is proved:
--     Steps    the tallies of a row's ids, each one up or one down
--     Counted  the tallies of the rows counted so far
--     Area     the work area for marks: rows of the other side at an id, and a row that goes to the other side
pub mod Steps
pub mod Counted
pub mod Area
