-- What a reader believes of the state of a box, from document 01.
--     Mixers    the state, what keeps it valid, opening, setting a bank, voices, stop
pub mod Mixers
