-- Input that comes in chunks, cut into lines.
--     Lines    what bytes make of a line
pub mod Lines
