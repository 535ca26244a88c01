-- Theorems that rest on theorems of `specs/`, which stand here so that a wrong definition is refused by a proof of it and not by its name:
--     Laws      of the cases, of answers, of a job's answers, of job files made from their parts
--     Reading   each code and answer exactly in its case, and what a run gives
pub mod Laws
pub mod Reading
