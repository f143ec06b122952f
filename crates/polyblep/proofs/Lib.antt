-- Laws that callers of these functions cite, and what the proofs here share.
--     Laws     an oscillator and a voice stay valid, for any number of samples; what a step is
--     Runs     requests one after another: valid-after
--     Fields   an oscillator's or a voice's own bits give it back; own-fields, own-voice
--     Turn     the remainder of the sine changes nothing at a phase
--     Examples document 01's first samples, computed
--     Ranges   where a float lies, by its digits and in the words of the comparisons; −0
--     Keep     the phase stays from 0 up and below 1
--     Step     a step lies in 0..0.499; 0 for 0 Hz, 0.499 above 16,777,216 Hz
--     Literals what literals unfold to, under names that attributes can write
--     Cut      a float cut to an i8: its whole part from its bits, and where it is held or 0
pub mod Laws
pub mod Runs
pub mod Fields
pub mod Turn
pub mod Examples
pub mod Ranges
pub mod Literals
mod Keep
mod Step
mod Cut
