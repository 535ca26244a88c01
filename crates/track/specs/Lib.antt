-- What the code of `track` means beyond `rules`, and the laws by which it is proved:
--     Refusals  the code and place of each refusal
--     Outcomes  an outcome and the four buffers, as `rules` has them
--     Stages    what each stage of the run may rest on, and what is still to be decided
--     Cut       the sections of a job, by their offsets
--     Sections  the verdict on the table, and what it leaves to decide
--     Headers   the verdict on the header and the rooms
--     Accepted  what an accepted run leaves
pub mod Refusals
pub mod Outcomes
pub mod Stages
pub mod Cut
pub mod Sections
pub mod Headers
pub mod Accepted
