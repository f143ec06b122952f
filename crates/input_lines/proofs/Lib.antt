-- What callers cite.
--     Laws    each call reads on and stays within the chunk: reads-on
pub mod Laws
