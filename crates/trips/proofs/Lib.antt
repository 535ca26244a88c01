-- What is proved of the lists and the files that are taken:
--     Writable   the facet writer answers 0 to the lists of `specs.Writable`, and to no other
--     Readable   the reader answers 0 to the files of `specs.Readable`, and to no other
--     Forth      the file of a list is read as that list
--     Back       the file of what a file is read as is that file
--     Trips      the two round trips, and what each call leaves, over the calls' answers
--     Written    computed theorems on the facet writer: each code, the whole file of one facet, the most facets
--     Read       computed theorems on the reader: each code, numbers off the grid as they are handed back, files that are read
pub mod Writable
pub mod Readable
pub mod Forth
pub mod Back
pub mod Trips
pub mod Written
pub mod Read
