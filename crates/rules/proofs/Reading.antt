-- What follows from the readings of `specs.Reading`:
--     Ring        clean
--     Answers     each answer exactly in its case
--     Codes       each code exactly in its case, and what an accepted job keeps
--     Outward     the ids of a triangle that is listed outward
--     Order       which order a job asks for changes nothing but the order
--     Small       how large what a run gives can be
--     File        what word 7 of the job file says of points
pub mod Ring
pub mod Answers
pub mod Codes
pub mod Outward
pub mod Order
pub mod Small
pub mod File
