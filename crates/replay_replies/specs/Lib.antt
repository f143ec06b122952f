-- What is printed, from the replay format.
--     Texts    the text of each reply
pub mod Texts
