-- Laws of whole numbers.
--     Ring   sums, products and opposites: a whole number is a difference of two naturals, and `omega` compares these.
--     Norm   two polynomials are equal where their difference, its terms gathered, has no term left: a test that computes, so that an
--            identity is proved by `refl`.
--     Swap   the product at four points changes its sign when two that stand side by side change places.
pub mod Ring
pub mod Norm
pub mod Swap
