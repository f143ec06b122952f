-- Demand 3, once for every box: a list of play requests, one after another.
--     Players    a box that takes play requests: Player; what demand 3 says of it: Demand3; what that follows from: Lawful, ByRule
--     Slices     a list of requests in a slice of bytes: PlaysAll, PlaysEach
--     Presents   the state of the present rules as such a box
-- Inner, for the code's own steps; no definition of another kind rests on it:
--     Steps      the marks of the loop
pub mod Players
pub mod Slices
pub mod Presents
pub mod Steps
