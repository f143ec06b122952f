-- What a reader believes of the box of the present rules, from document 02.
--     Sounders   the box around its state
--     Calls      what each call makes of the state
--     Frames     a frame, and a buffer of frames
--     Requests   demand 3: a list of play requests
--     Steps      the calls in any order: how long a fade takes among them
--     Sounding   after the end of a fade of the second call the sound goes on
pub mod Sounders
pub mod Calls
pub mod Frames
pub mod Requests
pub mod Steps
pub mod Sounding
