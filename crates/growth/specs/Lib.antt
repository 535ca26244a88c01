-- What the code of `growth` means beyond `rules`, and the laws by which it is proved:
--     Free      faces that are free of the other side: edges, and vertices by the corner tallies
--     Around    a row and the four across its triangles; how many are on the skin
--     Edges     the edge that two skin triangles share, by the fixed tables
--     About     whether an edge is free of the other side, by a walk about it
--     Declined  why a proposal is declined, and the number of an answer
--     Cases     the five cases as the code asks them
--     Answers   one proposal by its tests, and proposals one after the other
--     Tested    what growing rests on, by equations and bounds
--     Asked     what `all` answers over a range
pub mod Free
pub mod Around
pub mod Edges
pub mod About
pub mod Declined
pub mod Cases
pub mod Answers
pub mod Tested
pub mod Asked
