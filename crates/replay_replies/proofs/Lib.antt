-- What the proofs here share.
--     Payload    a payload's length and text; a voice that is read
mod Payload
