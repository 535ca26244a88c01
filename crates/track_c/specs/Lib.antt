-- What the code of `track_c` means beyond `rules`:
--     Small  how large what a call gives can be
--     Told   what is told of each call in words, and that it fits them
pub mod Small
pub mod Told
