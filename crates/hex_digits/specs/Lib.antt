-- Hexadecimal as the replay format writes it.
--     Hex    digits, the fields of a line, numbers as digits, a text laid over a buffer
pub mod Hex
