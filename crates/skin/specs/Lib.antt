-- What the code of `skin` means beyond `rules`:
--     Between   the triangles between the two sides, by the neighbour list
pub mod Between
