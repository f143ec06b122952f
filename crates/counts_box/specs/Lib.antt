-- What a reader believes of the counts and the box, from document 02, T-13.
--     Tried    every list of requests is played on a silent box, and one more is asked: tried; the call gives the same: CountsTried
pub mod Tried
