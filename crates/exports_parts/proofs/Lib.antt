-- How a call that opens a box is proved, whichever box it is.
--     Panning   pans set one after another
pub mod Panning
