-- What a reader believes of the state of a box of the present rules, from document 02.
--     Marks    what stands beside the voices; ranks; the state; a state of document 01's box as one
-- Inner, for the code's own steps; no definition of another kind rests on it:
--     Steps    settling, and a start, as their code goes
pub mod Marks
pub mod Steps
