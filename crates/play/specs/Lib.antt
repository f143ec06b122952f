-- What a reader believes of the calls that start a voice, from document 01.
--     Plays    play requests, tone and PolyBLEP
--     Fades    beginning a fade
pub mod Plays
pub mod Fades
