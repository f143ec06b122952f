-- What a reader believes of the sound of a script's line.
--     Sounds    the frames that a line makes, and their cells
pub mod Sounds
