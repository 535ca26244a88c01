-- The five cases decide rings: why no step of growing leaves bad skin, and none is refused without need.
--
-- The table is closed: each triangle is in two rows, and the rows about an edge, and about a vertex, hang together by neighbours.
-- Nothing is said of geometry, and the link of a vertex need be no sphere. A skin triangle is one whose two rows have different marks.
-- About a vertex v, the edges opposite v in the skin triangles that hold v are its far edges; v is good if they form one ring
-- (Lhuillier, Corollary 2), and the skin is clean if each vertex is good.
--
-- One mark is flipped. For adding and removing this is one and the same thing: whether two marks differ has no direction.
--     Facet      A triangle of the flipped row is on the skin before or after, not both; any other stays as it was.
--     Ring       So at a vertex of the row three edges, a triangle x y z, are flipped. If all three were there, they were the whole
--                ring, and nothing is left. If two were, x y and y z, the ring now goes from x to z and leaves y out. If one was, x y,
--                the ring now goes by z, which is good unless z was on the ring already. If none was, the triangle is a new ring,
--                which is good unless there was one already.
--     Triangle   The same by the definitions of `rules`: far edges, one ring, clean.
--     Sides      A vertex that rows of both sides hold is on the skin, and so is an edge: walk from one row to the other by
--                neighbours that hold it, and somewhere the mark changes.
--     Cases      The four vertices together. With f triangles of the row on the skin:
--                f = 0   at each vertex none was there: each must be off the skin
--                f = 1   at the vertex opposite the triangle none was there, so it must be off the skin; then it is on no ring of
--                        the other three, at which one was there
--                f = 2   at the two left-out corners one was there: neither may be on the other's ring, so their edge must be off the
--                        skin; at the other two corners two were there
--                f = 3   at the corner whose triangle is missing all three were there, at the others two
--                f = 4   at each all three were there
--     Decide     By Sides, "off the skin" is "no row of the other side holds it": the five cases pass exactly if the skin with the
--                mark flipped is clean (Lhuillier, Theorem 4 and the remark after it).
--     Steps      So an answer is 0 exactly if the skin afterwards is clean; the skin is clean after every step; and since flipping back
--                leads to a clean skin, the taken proposals are all taken backwards.
--     Jobs       The same for accepted jobs.
--     Sharp      Without the vertex rule it would be false.
-- The theorems that rest on Ring's records, on what Decide asks, or on those of them stand in proofs/ under the same names, and by f in its
-- Free: so a wrong definition here is refused by a proof.
pub mod Facet
pub mod Ring
pub mod Triangle
pub mod Sides
pub mod Cases
pub mod Decide
pub mod Steps
pub mod Jobs
pub mod Sharp
