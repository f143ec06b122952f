-- What a reader believes of lengths with what is left over, from document 02, T-10.
--     Lengths    whole samples and remainder of a length, of lengths in turn, of a list's total
pub mod Lengths
