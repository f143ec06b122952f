-- What this crate's calls give, from document 01.
--     Shapers    the first-order and the second-order shaper
--     Duty       a period, the duty of a sample, and the mapper that shapes first
--     Levels     the bus limiter with its refusal, and the scale of converters without a sign
pub mod Shapers
pub mod Duty
pub mod Levels
