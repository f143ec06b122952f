-- What the proofs here share.
--     Along      buffers of frames of the box that is open
pub mod Along
