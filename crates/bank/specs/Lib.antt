-- Bank lookup by document 01.
--     Entries  a bank's bytes: numbers of two and four bytes, entry i with its kind byte checked
--     Banks    setting a bank, the checks in front of every lookup, one entry by its index, a payload's number and part
--     Search   the places that the search probes, and the rule that decides over them
-- Inner, for the code's own steps; no definition of another kind rests on it:
--     Loops    what a loop of the search gives
pub mod Entries
pub mod Banks
pub mod Search
pub mod Loops
