-- The skin listed outward: each triangle faces outward, and each edge of a clean skin is passed once each way.
--
-- The table holds each triangle in two rows, no finite row is flat (code 14), no two finite neighbours are on the same side of their
-- triangle (code 15), and the outer rows are alike. So one side has no outer rows: the inside, or where the sky is inside the outside.
-- All is counted on that side.
--     Orders     What holds of the rising ids of a triangle, and stays when two that stand side by side change places, holds in any order.
--     Row        A row has four ids x, y, w and v. About an edge x y it stands between the triangles x y w and x y v; across each of
--                them stands one other row.
--     Signs      The product at x, y, w and v is not zero, and changes its sign when two of them change places. A row leaves w and
--                enters v if the product is below zero, else it leaves v and enters w. Two rows of this side at a triangle x y w are on
--                opposite sides of it: one leaves w, the other enters it.
--     Flow       Each row leaves one id and enters another, so over all rows ids are left as often as they are entered.
--     EachWay    Where both rows at x y w are of this side they cancel. What is left are the skin triangles at x y, with one row of
--                this side each: as many of their third ids are left as are entered. On a clean skin x y is on two skin triangles, so
--                one third id is left, and one entered.
--     Listed     The list in the order asked for, by places and by words.
--     Facing     The triangle of an inside row is listed so that the row's fourth corner lies behind it; or, if that row is outer, so
--                that the fourth corner of the row across lies in front.
--     Passed     So at every listed triangle the fourth corner of the row of this side has the same sign: below zero behind, above in
--                front. Whether a listed triangle goes from x to y is then whether its third id is left or entered there, and of the two
--                at x y one goes from x to y and the other from y to x.
--     Outward    What is proved, for the crates above.
-- Passed, Outward, and what of Signs and Facing rests on the signs of two neighbours and on the record Facing, stand in proofs/: so a wrong
-- definition here is refused by a proof.
pub mod Orders
pub mod Row
pub mod Signs
pub mod Flow
pub mod EachWay
pub mod Listed
pub mod Facing
