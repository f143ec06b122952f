-- What a reader believes of the start of a frame, from document 02's T-08.
--     Lined      a state of the present rules with its line and the kept refusal
--     Entering   what goes in at the start of a frame
--     Fates      what became of each request that was tried: the theorem
pub mod Lined
pub mod Entering
pub mod Fates
