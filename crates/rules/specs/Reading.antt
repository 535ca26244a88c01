-- Document 01 in plain relations, each proved equal in meaning to the definition that computes it (here, or in `proofs.Reading` where the
-- proof rests on another one):
--     Rows        rising rows, ids below V, dictionary order, holding an id
--     Neighbours  neighbours, and that they are mutual
--     Closed      the triangle, edge and vertex rules; the row across; the closed table
--     Moves       rows that hold two ids, and the moves between them
--     Apart       no two rows have the same ids
--     Skin        skin triangles, skin vertices, far edges
--     Outer       outer rows: they come first; alike or not; the finite skin
--     Points      the range of points, the fourth corner of a row at a triangle, and codes 13 to 15
--     Ring        one ring, clean
--     Answers     the tests of a proposal and the five cases
--     Codes       each code exactly in its case, and what it leaves
--     Work        what each word of the work area says
--     Room        at most 2N triangles, each once
--     Listing     the skin list: the triangles between the sides, from either row
--     Outward     triangles that pass from an id to another, and that face outward
--     Order       files and runs that differ in the order that is asked for alone
--     File        where an id, a mark, a proposal and a point stand in the job file, and what its word 7 says
pub mod Rows
pub mod Neighbours
pub mod Closed
pub mod Moves
pub mod Apart
pub mod Skin
pub mod Outer
pub mod Points
pub mod Ring
pub mod Answers
pub mod Codes
pub mod Work
pub mod Room
pub mod Listing
pub mod Outward
pub mod Order
pub mod File
