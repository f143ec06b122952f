-- What a reader believes of the evacuation pattern, from document 02, T-01.
--     Pattern   the six durations, each phase's samples, whether the signal sounds at a sample, a run of samples
--     Reader    a recording's runs of equal bytes, and when they are whole cycles of the pattern
--     Places    where in its cycle a sample stands, and the next one
--     Opened    pattern and reader opened at a rate, and what holds of each
pub mod Pattern
pub mod Reader
pub mod Places
pub mod Opened
