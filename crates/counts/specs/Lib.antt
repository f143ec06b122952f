-- What a reader believes of the counts, from document 02, T-13.
--     Counts    every list of priorities, and how many of them turn a request away: counted
-- Inner, for the code's own steps; no definition of another kind rests on it:
--     Rows      the counts for lists of one length, from those for lists that are one shorter
pub mod Counts
pub mod Rows
