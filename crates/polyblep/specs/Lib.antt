-- What a reader believes of PolyBLEP, from document 01 and, for the order of the float operations, the source.
--     Ranges       where a phase and a step lie
--     Blep         the two corrections
--     Sine         the source's approximation of the sine
--     Waves        the four waveforms at a phase and a step
--     Oscillators  the oscillator and the voice around it, call by call
--     Restores     an oscillator and a voice from their fields
-- Inner, for the code's own steps; no definition of another kind rests on it:
--     Blocks       requests one after another
pub mod Ranges
pub mod Blep
pub mod Sine
pub mod Waves
pub mod Oscillators
pub mod Blocks
pub mod Restores
