-- What a reader believes of a frame, from document 01, "Mixing, fade, duty".
--     Places    a list's elements, each with its place
--     Fades     the fade's advance and end
--     Frames    one mono frame, one stereo frame
--     Runs      frames one after another
--     Presents  frames of a box of the present rules
--     Sounding  what a voice gives in a frame, and what it would give by itself
--     Whole     a frame with every gain at 255
--     Lasting   how long a fade takes
pub mod Places
pub mod Fades
pub mod Frames
pub mod Runs
pub mod Presents
pub mod Sounding
pub mod Whole
pub mod Lasting
