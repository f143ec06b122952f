-- What a reader believes of requests played by a box of the present rules that lives for one call; the rest of it is in `exports_parts`.
--     Plays   the calls of that box
pub mod Plays
