-- The fields that the records share, from the replay format.
--     Read      an envelope's times, duty modes, waveforms
--     States    the fields of a voice's state
pub mod Read
pub mod States
