-- What the code of `lines` means beyond `rules`, and the laws by which it is proved:
--     Listing   the text that document 01 has printed of a job
--     Decimal   laws of decimal numbers
--     Put       texts put into a buffer, one behind the other
--     Page      the same of a page, which is a buffer with a place in it
--     Lines     words, numbers and lines, put in turns
--     Room      how long the lines are
--     Listed    what a run gives, and the listing of it
--     Long      inputs that are longer than any job
--     Facets    a list of units as text, nine to a line
--     Units     laws of a number's text, and of a list's
--     Worked    document 01's listing of A, that of a refused job, and the lines of two facets
pub mod Listing
pub mod Decimal
pub mod Put
pub mod Page
pub mod Lines
pub mod Room
pub mod Listed
pub mod Long
pub mod Facets
pub mod Units
pub mod Worked
