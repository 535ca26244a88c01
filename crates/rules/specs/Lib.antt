-- What document 01 means, with requests (i) to (vii) of document 02, from the bottom up, in their words, each idea in one place:
--     Below       numbers below a bound: lowest, any, all, count, pick, tabulate
--     Words       numbers in bytes, low byte first
--     Shape       corners, triangles and edges of a row, by position
--     Joined      connectedness
--     Table       rows, neighbours, the triangle, edge and vertex rules
--     Skin        skin, far edges, one ring, clean, the skin list
--     Points      points in bytes, their range, and the product by which a side is told
--     Outward     points on a table, and triangles listed outward
--     First       first match decides
--     Cases       the five cases, and the answer of each that refuses
--     Proposals   answers, and the marks after them
--     Work        the work area: the neighbour list and the corner tallies
--     Job         the file, the fifteen codes, the lent buffers, the run
--     Made        job files made from their parts
--     Stl         binary STL: the file, the facet writer, the reader, the job's writer
-- Laws holds what follows from the definitions one by one. Reading says each sentence of document 01 in plain relations and proves it
-- equal in meaning to its definition. What rests on these theorems in turn stands in `proofs/`, so that a wrong definition is refused by a
-- proof of it. Worked holds document 01's jobs with known results, and further ones, as computed theorems.
pub mod Below
pub mod Words
pub mod Shape
pub mod Joined
pub mod Table
pub mod Skin
pub mod Points
pub mod Outward
pub mod First
pub mod Cases
pub mod Proposals
pub mod Work
pub mod Job
pub mod Made
pub mod Stl
pub mod Laws
pub mod Reading
pub mod Worked
