-- What the code of `marks` means beyond `rules`, and the laws by which it is proved:
--     Start   codes 10 to 12, first match decides
pub mod Start
