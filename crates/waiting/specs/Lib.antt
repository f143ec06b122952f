-- What a reader believes of the requests that wait, from document 02's T-08.
--     Lines      the line: leaving, withdrawing, the next one, the labels, what keeps it valid
--     History    the line over a history of when each was left: what a fresh sort gives; none is lost
-- Inner, for the code's own steps; no definition of another kind rests on it:
--     Steps      a new one put in its place, as its code goes
pub mod Lines
pub mod History
pub mod Steps
