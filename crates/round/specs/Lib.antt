-- What the code of `round` means beyond `rules`, and the laws by which it is proved:
--     Trail   numbers each near exactly two others: a walk by them leaves one possible stop, and comes back to its first
--     Edge    the rows about an edge: each is near exactly two others, so a walk about the edge through rows of one side ends
pub mod Trail
pub mod Edge
