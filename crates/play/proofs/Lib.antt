-- What callers cite.
--     Laws       each definition keeps a state valid; what a fade that is turned down has changed: refused-before, refused-there;
--                the second fade call beside the first: on-or-not
--     Parted     the two rules of a payload's refusal differ in its number alone: same-fade, fade-accepted
--     Placing    what a request's place and voice make of a state: placed-stored, placed-kept
pub mod Laws
pub mod Parted
pub mod Placing
