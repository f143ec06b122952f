-- What callers cite.
--     Choice    the allocation as its code goes; a voice that is allocated is there: allocated-below, oldest-below
--     Keyed     the allocation by keys is the allocation: allocated-keyed, oldest-keyed, keyed
--     Rekeyed   the keys after a voice was started: plain-rekeyed, rekeyed-keys
pub mod Choice
pub mod Keyed
pub mod Rekeyed
mod Searches
