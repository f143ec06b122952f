-- What a reader believes of a run over a script's lines.
--     Runs        what a run keeps
--     Sessions    what each line makes of it
pub mod Runs
pub mod Sessions
