-- What a reader believes of a frame of a box with requests that wait, from document 02's T-08.
--     Frames   those that wait go in, then the frame as before
-- Inner, for the code's own steps; no definition of another kind rests on it:
--     Spans    how many frames surely pass before a voice can fall inaudible
pub mod Frames
pub mod Spans
