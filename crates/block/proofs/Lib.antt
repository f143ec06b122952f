-- What callers cite.
--     Cells     cells written in one run or several
--     Fits      values on the way fit
--     Sums      sums of what voices give
--     Gather    sums and counts over the voices, as the loops have them
--     Parts     parts of a block; the voices beside a fade
--     Frames    frames of a run outside a fade, within one, and over its end
--     Boxes     the same with the marks beside them
pub mod Cells
pub mod Fits
pub mod Sums
pub mod Frames
pub mod Boxes
pub mod Parts
pub mod Gather
