-- What callers cite.
--     Laws     each definition keeps a state valid
--     Lasting  how long a fade takes, in any box whose steps keep the laws: lasts
--     Fades    a frame of either kind advances the fade: mono-fade, stereo-fade; a fade ends within 255 frames
--     Ends     a fade's end, whichever call began the fade: ends-share, taken-heard
--     Silence  what is silent stays silent
--     Voices   a frame of all voices is a frame of each: mono-framed, stereo-framed
--     Alike    marks that differ at most beside inaudible voices
--     Sized    what settling asks of a state
--     Settling what stands beside an inaudible voice never shows: mono-still, duty-still, stereo-still
--     Sounding after a fade that keeps sounding voice 0 runs as voice 1 would have by itself: Runs
--     Whole    with every gain at 255 a source's sample comes to the limiter as it is: handed-through
pub mod Places
pub mod Laws
pub mod Lasting
pub mod Fades
pub mod Ends
pub mod Silence
pub mod Voices
pub mod Alike
pub mod Sized
pub mod Settling
pub mod Sounding
pub mod Whole
