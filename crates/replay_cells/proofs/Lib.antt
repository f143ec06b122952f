-- Laws on cells as text, for the proofs here and of callers.
--     Turns    as a loop goes through them; all of a line where there is room: numbered-all
pub mod Turns
