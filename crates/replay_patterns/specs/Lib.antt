-- What the replay's records of the evacuation pattern print, from docs/REPLAY.md.
--     Records   80, evacuation pattern, and 81, evacuation reader
pub mod Records
