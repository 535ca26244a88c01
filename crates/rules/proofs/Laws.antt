-- What follows from the laws of `specs.Laws`:
--     Cases      what is refused has f below 3, and the answer of each case
--     Proposals  answers, one proposal more
--     Job        one answer for each proposal
--     Made       job files made from their parts: laid out, and read back
pub mod Cases
pub mod Proposals
pub mod Job
pub mod Made
