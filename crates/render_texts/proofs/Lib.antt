-- What callers cite.
--     Laws      a piece said after another: then, joined, nothing
--     Whole     how long a text is at most: either-within, words-within, decimal-within and their like; such a text is whole: whole
--     Cut       lists held to a length
--     Spelling  a number's digits, put from the last one on
--     Fewest    they are the kit's: as few as a number has, and at most 20 below 2^64
pub mod Laws
pub mod Whole
pub mod Cut
pub mod Spelling
pub mod Fewest
