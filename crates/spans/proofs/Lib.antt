-- What callers cite.
--     Voices  one voice: framed-lasts
--     Steady  all voices of a state: still-busy, after frames of one kind; still-busy-mixed, of any kinds; is-frame; at least one frame: lasts-some
--     Laws    frames of a state with its line. At the start of none does one go in: with none waiting none-quiet, with no voice free busy-quiet. Then they
--             go in once, and the frames are the plain ones: span-after, span-given. Entering twice is entering once: enter-once; where one still
--             waits, no voice is free: waits-busy
--     Fades   a frame advances the fade, whoever goes in before it: enter-fade, framed-fade; a play request leaves the fade: played-fade
pub mod Voices
pub mod Steady
pub mod Laws
pub mod Fades
