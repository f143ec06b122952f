-- Laws that callers cite.
--     Laws      each definition keeps a voice valid; what cannot be heard
--     Requests  a source, request by request: source-stops, and when it was active; a block of each kind is the source's
--     Runs      a voice, frame by frame: voice-after, voice-ticks, voice-run, voice-stops, valid-frames, valid-ticks
--     Cells     the cells of a voice's block
--     Rests     remains, click-rests-in-sustain
pub mod Laws
pub mod Requests
pub mod Runs
pub mod Cells
pub mod Rests
