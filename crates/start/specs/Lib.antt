-- What a reader believes of a start, from document 01.
--     Starts    entry start, the start that a request asks for, tone and PolyBLEP starts
pub mod Starts
