-- What a dump prints, from the replay format.
--     Dumps    the engine's line, a line for each voice
pub mod Dumps
