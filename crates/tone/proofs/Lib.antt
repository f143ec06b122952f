-- Laws that callers cite.
--     Laws      a duration in samples; requests one after another
--     Loops     a loop that writes a wave at phases a step apart: Left, left-start, left-turn, left-end, waved-front
--     Sounding  a source that counts its samples down, n requests at once
pub mod Laws
pub mod Loops
pub mod Sounding
