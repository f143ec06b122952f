-- What a reader believes of a block of frames.
--     Blocks    what a block of frames gives
-- Inner, for the code's own steps; no definition of another kind rests on it:
--     Cells     cells of a block written, the others left
--     Parts     a block in parts, as the code cuts it
pub mod Cells
pub mod Blocks
pub mod Parts
