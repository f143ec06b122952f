-- What the proofs here share.
--     Bytes   a flag as a byte
mod Bytes
