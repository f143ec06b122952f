-- What a reader believes of the engine, from document 01.
--     Engines    the box around the mixer's state
--     Openings   the shorter ways to open one
--     Ticks      the calls of one frame
--     Fills      the buffer calls
--     Requests   demand 3: a list of play requests
--     Steps      the calls in any order: how long a fade takes among them
pub mod Engines
pub mod Openings
pub mod Ticks
pub mod Fills
pub mod Requests
pub mod Steps
