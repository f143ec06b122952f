-- What every crate's definitions are written in.
--     Whole    whole numbers as document 01 writes, divides, holds and wraps them: neg, floor_div, trunc_div, modulo, held_to, wrap32
--     F32      binary32: the four operations as ⊕ ⊖ ⊗ ⊘, a literal as a rounded fraction, holding to a range
--     Lists    what is said of a list's elements: All, map_first, only
--     Runs     one step after another: after, given
--     Durations  samples of a duration: samples_of, samples_wrapped
--     Made     Made Valid x r: the value r that a call gives is x, and Valid
pub mod Whole
pub mod F32
pub mod Lists
pub mod Runs
pub mod Durations
pub mod Made
