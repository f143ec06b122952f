-- What the proofs here share.
--     Buffers    a part of a blank buffer, as a call left it and as it is printed
mod Buffers
