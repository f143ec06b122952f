-- What callers cite.
--     Highest    how many of the first n in falling order are at or above a priority
--     Places     an allocation that is allowed gives a voice exactly where fewer than all are at or above the request's priority
--     Holds      after a list of sound requests to a silent box one more is refused exactly if N of them are at or above it: refused-exactly;
--                trying every list gives the counts: tried-all, counts-tried; the same request for each of a priority: same-each
pub mod Highest
pub mod Places
pub mod Holds
