-- What a reader believes of a buffer of frames of a box with requests that wait, from document 02's T-08.
--     Frames   the frames of a state with its line, and a buffer that they fill
-- Inner, for the code's own steps; no definition of another kind rests on it:
--     Parts    how many frames are made at once
pub mod Frames
pub mod Parts
