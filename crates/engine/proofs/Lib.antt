-- What callers cite.
--     Requests   the engine takes play requests as every box does: lawful, follows, each-lifted
--     Steps      each call does to a fade what document 01's does: fade-takes, fade-lasts; what a buffer call and a list of requests are: frame-run, play-run
pub mod Requests
pub mod Steps
