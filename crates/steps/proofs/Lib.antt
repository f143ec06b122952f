-- What a box cites.
--     Frames     a frame of a duty advances the fade, whatever stands beside the voices: duty-fade (`frame` has the others)
--     Calls      each other call leaves the fade, begins one or does not let it go on: leaves, Fading, fading-by
--     Steps      how long a fade takes in every box by the rule: fade-takes; in a box that has other calls too: begun-takes, fade-lasts; what a buffer
--                call and a list of requests are: frame-run, play-run
pub mod Frames
pub mod Calls
pub mod Steps
