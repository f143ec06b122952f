-- A line of text as it is put together.
--     Texts    words as bytes, numbers and times in words, what a text holds
pub mod Texts
