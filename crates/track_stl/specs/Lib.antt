-- What the code of `track_stl` means beyond `rules`, and the laws by which it is proved:
--     Outcomes  the code and place of each refusal of a file
--     Corners  corners at the points of ids, and facets of triangles
--     Skins    the skin in either order, its file, and what listing it again leaves
--     Ran      a job that was run, and what its writer answers, as `rules` has it
pub mod Outcomes
pub mod Corners
pub mod Skins
pub mod Ran
