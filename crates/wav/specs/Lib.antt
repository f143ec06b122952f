-- What a reader believes of a sound file.
--     Wav     its header and its cells, as bytes
--     File    a whole file, and what a reader makes of it
pub mod Wav
pub mod File
