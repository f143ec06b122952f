-- What a reader believes of the tone, from document 01, "Generated sources".
--     Duration   how many samples a source lasts, and the count of those left
--     Tones      the three waveforms and the oscillator
-- Inner, for the code's own steps; no definition of another kind rests on it:
--     Blocks     requests one after another
pub mod Duration
pub mod Tones
pub mod Blocks
