-- What the proofs here share.
--     Going    a run of steps with their texts, as a loop goes through it
--     Done     a reply's text from place 0 on is the answer
mod Going
mod Done
