-- What a reader believes of the calls over document 01's box.
--     Plays   an engine that lives for one call
pub mod Plays
