-- What the code of `grid` means beyond `rules`, and what is proved of numbers:
--     Numbers  what the reader answers to a number
--     Sweep    one computed test over the 2,047 numbers of the grid
--     Exact    the f32 written for u units has the value u / 16; times 16 brings the units back
--     Named    bits are read as u units exactly if they are written for u
--     Steps    what the code's steps rest on
pub mod Numbers
pub mod Sweep
pub mod Exact
pub mod Named
pub mod Steps
