-- What a reader believes of how true a PolyBLEP voice in a box stays, from document 02, T-12.
--     Calls    what comes between: frames of every kind, pans, master gains; the turns that voice 0 completes in them
--     Boxes    the limit, from a start on
pub mod Calls
pub mod Boxes
