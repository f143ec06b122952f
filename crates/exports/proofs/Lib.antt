-- How the calls for other languages are proved.
--     Banked   what a call that wrote a bank tells
--     Cells    a run's values, one to a cell
--     Leaving  requests left one after another, and what is told of them
--     Laws     what callers cite: a payload that is there is within the bytes
mod Banked
mod Cells
mod Leaving
pub mod Laws
