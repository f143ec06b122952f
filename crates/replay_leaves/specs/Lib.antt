-- What a script's line is and what is answered to it, from the replay format and docs/REPLAY.md.
--     Replies    each record: what its fields are and what is answered
--     Runs       the records of many answers
--     Sounds     a source alone
--     Voices     a voice alone
--     Planning   how often a signal would be turned away
--     Answers    the text of an answer
pub mod Replies
pub mod Runs
pub mod Sounds
pub mod Voices
pub mod Planning
pub mod Answers
