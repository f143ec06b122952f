-- Stores into cells, and what a buffer holds after blocks of frames.
--     Parts    filling in two parts is filling at once
--     Lifted   a state of document 01's box fills buffers as one of the present rules
--     Settled  a buffer of frames settles its marks once, at the end, and each frame would have
--     Putting  cells stored one after another
--     Blocks   blocks after the frames so far, of any box
--     Rows     the samples that a block's rows hold
--     Duties   cells at a level are the mapper over the frames' samples
--     Sounds   blocks of this box's frames, by shape and by level
pub mod Parts
pub mod Lifted
pub mod Settled
pub mod Blocks
mod Putting
mod Rows
mod Duties
pub mod Sounds
