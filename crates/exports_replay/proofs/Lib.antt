-- How a whole script's run is proved.
--     Room     cells laid over a buffer as far as there is room
--     Cutting  a line, as a loop looks for its end
--     Going    a run, as a loop goes through its lines
--     Laws     what callers cite: all is there where it fits; joined lines are cut into the lines that they were
mod Room
mod Cutting
mod Going
pub mod Laws
