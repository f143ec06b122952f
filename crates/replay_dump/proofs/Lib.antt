-- What the proofs here share.
--     Lines    the voices' lines, as a loop goes through them
mod Lines
