-- How true the float pitch stays.
--     Drift     the theorem: pitch
--     Voices    a voice follows its oscillator: follows
--     Examples  the limit cannot be halved: half-fails
--     Near      what rounding moves a fraction by
--     Values    sums, differences and sizes in units of 2^−149
--     Start     the step of a start: Hz ÷ rate to the nearest
--     Step      one sample: the rounded sum, the phase after it
--     Prices    what one sample costs, in numbers
--     Credit    samples one after another: what one saves, another spends
--     Cases     every step is paid for: a low one, an even one, an odd one
pub mod Drift
pub mod Voices
pub mod Examples
mod Near
mod Values
mod Start
mod Step
mod Prices
mod Credit
mod Cases
