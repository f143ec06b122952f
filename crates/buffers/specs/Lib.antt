-- What a reader believes of a buffer of frames, from document 01, "Mixing, fade, duty".
--     Buffers    what a filled buffer is, and what a frame gives to it
--     Shapes     the same by the shape of a frame, or by the level of a cell without a sign
-- Inner, for the code's own steps; no definition of another kind rests on it:
--     Blocks     a block of frames on its way to cells
pub mod Buffers
pub mod Shapes
pub mod Blocks
