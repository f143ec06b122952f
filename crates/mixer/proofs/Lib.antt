-- What callers cite: each definition keeps a state valid; a turn of each loop over the voices.
pub mod Laws
