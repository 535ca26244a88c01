-- What the code of `job` means beyond `rules`:
--     Reading  what reading a header gives, and document 01's number for each answer
pub mod Reading
