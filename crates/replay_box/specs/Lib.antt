-- What a reader believes of the box that a script has open.
--     Boxes     which it is, and each call on it
--     Frames    its frames
pub mod Boxes
pub mod Frames
