-- What the proofs here share.
--     Lending    the bytes of a line, as a loop copies them
--     Done       an answer laid from place 0 on is the answer
pub mod Lending
pub mod Done
