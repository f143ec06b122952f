-- What a reader believes of the calls for other languages.
--     Leaves    numbers alone
--     Levels    an envelope alone
--     Lengths   lengths with what is left over
--     Counting  how often a signal would be turned away
--     Signals   the evacuation pattern and its reader
--     Banks     a bank that is set for one call
--     Writing   a bank that is written
--     Waits     requests that are left to a box of the present rules that lives for one call; the rest of it is in `exports_play` and `exports_parts`
pub mod Leaves
pub mod Levels
pub mod Lengths
pub mod Counting
pub mod Signals
pub mod Banks
pub mod Writing
pub mod Waits
