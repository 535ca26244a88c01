-- What the code of `volume` means beyond `rules`, and the laws by which it is proved:
--     Bound   how far a whole number lies from zero, and that what is computed with it fits
--     Meant   a point of the code as `rules` has it
pub mod Bound
pub mod Meant
