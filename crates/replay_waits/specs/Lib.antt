-- The records of requests that wait, from the replay format.
--     Waits    which lines are allowed, what each asks of the box, and what is answered; every record of an open box
pub mod Waits
