-- Writing a bank, by document 02's T-05.
--     Order     entries with their payloads, by rising id
--     Layout    the bytes of a bank
--     Refusals  what is turned down, and the call: bank_given
--     Reading   what is read back of a bank, and which bytes hold the same
--     Bytes     entries as the bytes that a program hands over
-- Inner, for the code's own steps; no definition of another kind rests on it:
--     Places    the order as a list of places
pub mod Order
pub mod Layout
pub mod Refusals
pub mod Reading
pub mod Bytes
pub mod Places
