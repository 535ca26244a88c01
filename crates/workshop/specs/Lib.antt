-- What the code of `workshop` means beyond `rules` and `lines`, and the laws by which it is proved:
--     Said     what is said of an STL file
--     Laws     the reader's answers, and what is said of each
--     Long     files that are longer than any that is read
--     Skin     what is said of a job
--     Written  the answers of the job's writer, and what is said of each
pub mod Said
pub mod Laws
pub mod Long
pub mod Skin
pub mod Written
