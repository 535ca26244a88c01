-- What the code of `table` means beyond `rules`, and the laws by which it is proved:
--     Rows       the table of a row section, and what codes 5 and 6 have shown of it
--     Faces      triangles, edges and vertices of a row as three corners each
--     Chains     places threaded into chains by a key, and what a walk along a chain counts
--     Places     the faces of all rows one after the other, threaded by their ids
--     Walk       a walk along the chain of a place
--     Triangles  the triangle rule and the row across, by like places
--     Ground     what the neighbour list means; all that anything above may know of it
--     Tested     the same by tests, which a value can carry
--     Holders    the rows that hold an edge or a vertex, joined or not by a flood
--     Closed     codes 5 to 9, first match decides
pub mod Rows
pub mod Faces
pub mod Chains
pub mod Places
pub mod Walk
pub mod Triangles
pub mod Ground
pub mod Tested
pub mod Holders
pub mod Closed
