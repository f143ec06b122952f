-- What callers cite.
--     Order   counting the older ones keeps the order
--     Laws    settling; what keeps a state valid: settled-valid, none-valid, changed-valid
--     Ranks   ranks have no gap and no repeat: no-gap
--     Steps   settling, and a start, as their code goes
--     Starts  a voice started in a valid state: begun-order, begun-valid, stored-valid, stored-settled
pub mod Order
pub mod Laws
pub mod Ranks
pub mod Steps
pub mod Starts
