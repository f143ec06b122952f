-- What a reader believes of the allocation, from documents 01 and 02.
--     Allocation    which voice a request gets
-- Inner, for the code's own steps; no definition of another kind rests on it:
--     Keys          the same by a key for each voice
pub mod Allocation
pub mod Keys
