-- How true a PolyBLEP voice in a box stays.
--     Frames   a frame takes one sample of voice 0; settings take none
--     Boxes    the theorem: true-box
mod Frames
pub mod Boxes
