-- What the code of `points` means beyond `rules`, and the laws by which it is proved:
--     Grid    points that passed code 13
--     Tested  the same and the table by tests, which a value can carry
--     Sides   a triangle by its three ids, outer rows by their first id, and the fourth corner of the row across by sums of ids
--     Folded  code 15 asked once for each triangle, by the lower of its two rows
--     Asked   a test asked of the first numbers, one after the other
--     Placed  codes 13 to 15, first match decides
pub mod Grid
pub mod Tested
pub mod Sides
pub mod Folded
pub mod Asked
pub mod Placed
