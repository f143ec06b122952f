-- Laws that callers cite are in Order, Reading, Orders, Held, Only and Answers.
--     Order     by rising id: in-order, only-order, any-order
--     Reading   what is read back of a bank that was written: read-back
--     Orders    two orders give the same bank and the same answer: two-orders
--     Held      a bank that was written holds its entries: bank-holds
--     Only      and is the only bytes that do: only-bank
--     Answers   what a call tells of the bank that it wrote: wrote-refused, wrote-length
--     Examples  one bank, worked out
--     Ranks     an entry's place is how many have a lower id
--     Given     the tests that refuse with 13
--     Pairs     entries with their payloads
--     Turns     loops, a turn at a time
--     Written   what is refused, a bank's length, and the cells written
pub mod Order
pub mod Ranks
pub mod Given
pub mod Pairs
pub mod Turns
pub mod Written
pub mod Reading
pub mod Orders
pub mod Held
pub mod Only
pub mod Answers
pub mod Examples
