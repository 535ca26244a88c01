-- What follows from the definitions, one by one:
--     Truth      tests and what they say
--     Below      lowest, any and all below a bound
--     Count      how many pass; exactly one, exactly two
--     Highest    the highest that passes
--     Lists      lists gathered and tabulated; members
--     Places     m places to a row
--     Joined     chains, and connectedness by them
--     Shape      the fixed tables of corners and edges
--     First      first match decides
--     Cases      the five cases, and the answer of each
--     Proposals  answers and marks, one proposal more
--     Work       corner tallies: none, one row more, one side and the other
--     Words      numbers in bytes
--     Written    a list at the front of a buffer
--     Copied     a list copied to the front of a buffer, number by number
--     Job        what a job takes from its header
--     Made       job files made from their parts
--     Stl        lengths of STL files, and their header
pub mod Truth
pub mod Below
pub mod Count
pub mod Highest
pub mod Lists
pub mod Places
pub mod Joined
pub mod Shape
pub mod First
pub mod Cases
pub mod Proposals
pub mod Work
pub mod Words
pub mod Written
pub mod Copied
pub mod Job
pub mod Made
pub mod Stl
