-- The records of an open box, from the replay format.
--     Calls    which lines are allowed, what each asks of the box, and what is answered
pub mod Calls
