-- What a person is told of a script's lines.
--     Account    the line for each record, in words
--     Waits      requests that wait: left, withdrawn, out of the line
pub mod Account
pub mod Waits
