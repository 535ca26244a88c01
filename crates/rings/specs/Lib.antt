-- What the code of `rings` means beyond `rules`, and the laws by which it is proved:
--     Far       the far edges of a vertex, by the places of its skin triangles
--     Ends      their ends: twice as many as the skin triangles
--     Tallies   the skin triangles at a vertex, counted place by place
--     Sides     a skin triangle is between two rows: from one to the next about a common edge
--     Ring      edges followed from end to end
--     Follow    the ring of a vertex, followed so
--     InTurn    a search whose test asks what it told of the numbers before
--     Tested    a closed table with marks by tests, which a value can carry
pub mod Far
pub mod Ends
pub mod Tallies
pub mod Sides
pub mod Ring
pub mod Follow
pub mod InTurn
pub mod Tested
