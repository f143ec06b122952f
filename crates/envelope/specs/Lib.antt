-- What a reader believes of the envelope, from document 01, "Envelope".
--     Adsrs      the envelope of a voice: what each call makes of it, and what keeps it valid
--     Rests      an envelope that rests in sustain
--     Alone      the envelope that is opened alone
-- Inner, for the code's own steps; no definition of another kind rests on it:
--     Blocks     ticks one after another, and the levels that they leave
pub mod Adsrs
pub mod Blocks
pub mod Rests
pub mod Alone
