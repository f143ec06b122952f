-- What a reader believes of a voice, from document 01, "Voices", "Generated sources" and "Mixing".
--     Sources   what a voice sounds: the choice, its starts, its samples
--     Voices    the voice around it, call by call
--     Rests     how long a voice remains audible
-- Inner, for the code's own steps; no definition of another kind rests on it:
--     Blocks    a voice, frame after frame
pub mod Sources
pub mod Voices
pub mod Blocks
pub mod Rests
