-- T-07 and T-08 over calls in any order, from document 02.
--     Histories    when each voice was started, by a counter beside the calls; what the box then is
--     Waits        who waits, what became of each request that was left, and what leaving does not change
pub mod Histories
pub mod Waits
