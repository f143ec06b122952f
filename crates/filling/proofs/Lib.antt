-- What callers cite.
--     Parts   parts of a buffer, of any kind of frame: in each none goes in but at its start
--     Laws    by shape and by level. With none waiting a buffer is as before: as-before, as-before-level
pub mod Parts
pub mod Laws
