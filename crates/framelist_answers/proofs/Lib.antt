-- What the proofs here share.
--     Frames    a run of frames with their duties, as a loop goes through it
--     Done      an answer laid from place 0 on is the answer
--     Example   the definitions print the documents' example
mod Frames
mod Done
mod Example
