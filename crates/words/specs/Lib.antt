-- The laws by which the code of `words` is proved:
--     Stores   bytes that are copied or filled at a place
pub mod Stores
