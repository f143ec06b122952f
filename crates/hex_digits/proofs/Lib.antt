-- Laws on digits, for the proofs here and of callers.
--     Bits     two's complement, written and read back: back
--     Texts    fields past a line's end: no_byte and its like; runs of digits laid over a buffer: length-hex_of, length-four_of, shown,
--              shown-four, then, placed; what fits of a text: fitting-append and its like; all of it: whole, whole-line, all, part,
--              front; a loop's left-start, left-turn, left_end; how put lays them
--     Front    bytes stored from the front on, taken there
pub mod Bits
pub mod Texts
pub mod Front
