-- What a reader believes of the calls for other languages, whichever box they open.
--     Told    a value or a refusal, as a number and cells
--     Plays   a box that lives for one call
pub mod Told
pub mod Plays
