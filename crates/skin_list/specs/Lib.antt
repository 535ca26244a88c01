-- What the code of `skin_list` means beyond `rules`, and the laws by which it is proved:
--     Orders   the order in which ids are listed
--     Listing  the skin list, place by place
pub mod Orders
pub mod Listing
