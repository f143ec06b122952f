-- What a reader believes of how true the float pitch stays, from document 02, T-12.
--     Turns    the turns that samples complete
--     Pitch    the limit, and what it means for a listener
--     Voices   a voice gives that oscillator's samples, for as long as it lasts
pub mod Turns
pub mod Pitch
pub mod Voices
