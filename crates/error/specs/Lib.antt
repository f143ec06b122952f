-- Refusals by document 01, and those that document 02's requests add.
--     Numbers    the number of each refusal
--     Told       an answer as a value or a number, and the refusal that has a number
pub mod Numbers
pub mod Told
