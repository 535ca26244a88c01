-- What rests on the definitions of specs/:
--     Signs      two finite neighbours lie on opposite sides of their triangle
--     Facing     each listed triangle faces outward
--     Passed     an edge of a clean skin is passed once each way
--     Outward    what is proved, for the crates above
pub mod Signs
pub mod Facing
pub mod Passed
pub mod Outward
