-- What a reader believes of the records that fill a buffer, from the replay format.
--     Fills    the buffer that each fills, and what is printed of it
pub mod Fills
