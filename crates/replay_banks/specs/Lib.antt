-- What the replay's record of writing a bank prints, from docs/REPLAY.md.
--     Record    83, write a bank
pub mod Record
