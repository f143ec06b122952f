-- What a reader believes of FM, from document 01, "Generated sources".
--     Fm        the sine plus 128, the sample, and what each call makes of the oscillator
-- Inner, for the code's own steps; no definition of another kind rests on it:
--     Blocks    requests one after another, and what they give
pub mod Fm
pub mod Blocks
