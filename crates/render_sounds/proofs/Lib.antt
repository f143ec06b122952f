-- What the proofs here share, and what callers cite.
--     Pairs    frames of two cells each, at the front of a buffer
--     Laws     how long a line sounds: sound-length, sound_whole, few-frames, few_cells
mod Pairs
pub mod Laws
