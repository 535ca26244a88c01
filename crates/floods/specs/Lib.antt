-- What the code of `floods` means, and the laws by which floods are proved:
--     Flood  what is reached from a start: stamped, queued, and all of it once the queue is done
pub mod Flood
