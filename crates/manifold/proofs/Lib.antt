-- What rests on the definitions of specs/, in the order of its argument:
--     Ring       with none of a triangle's three edges before, it is the only ring afterwards
--     Triangle   the skin is clean exactly if each id has one ring
--     Cases      the four vertices together, by f
--     Free       by f: exactly if no row of the other side holds what the case asks for
--     Decide     the five cases pass exactly if the skin with the mark flipped is clean
--     Steps      each answer, every step, and backwards
--     Jobs       the same for accepted jobs
pub mod Ring
pub mod Triangle
pub mod Cases
pub mod Free
pub mod Decide
pub mod Steps
pub mod Jobs
