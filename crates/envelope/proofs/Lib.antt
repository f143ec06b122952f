-- What callers and the proofs cite.
--     Levels      the step of a level: between level and target, at c = length the target, no sign lost
--     Laws        each definition keeps an envelope valid; what an idle one stays; a tick by the end of its phase
--     Ticks       many ticks: valid-ticks, idle-ticks; those that end no phase, and what a block stores
--     Rests       where ticks alone lead: stays-active, rests, click-rests; from a release: release-lasts, release-out, release-active
pub mod Levels
pub mod Laws
pub mod Ticks
pub mod Rests
