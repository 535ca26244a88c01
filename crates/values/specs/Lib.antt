-- What a search of std means, as `rules` has it:
--     Places    a place that was found, as an option of `rules`
--     Searched  that a search over a range gives the lowest
pub mod Places
pub mod Searched
