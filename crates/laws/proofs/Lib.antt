-- Lemmas that more than one crate cites.
--     Bools     a Bool test and what it tells: never
--     Signed    sizes of signed numbers, by which a value fits its width: abs≤, abs-fits, add≤, sub≤, mul≤, abs-quot, neg-fits,
--               sub-fits, sub-bounds, sub-size, mul-fits, modulo-bits, mag-shr, mag-add, mag-fits; signs: pos-sub, neg-sub, sub-neg,
--               neg-mul, neg-quot, zero-sub, sub-flip; the rule set `signed` for goals under toZ and ofZ
--     Held      what held_to gives: held-id, held-within, within-fits, held-between
--     Wrap      what wrap32 gives: wrap-id for what fits, wrap-low and wrap-high for a lap more or less
--     Durations at document 01's rates: product-fits, samples-wrapped
--     Made      a value that is x, which is valid, is Made: made
--     Finite    a rule over all numbers below a bound by one computed test: below, between, same-at, fits-at, i8
--     Lists     runs of stores: sets-append, sets-last; loops over the first n: drop-take-cons, drop-take-end, map_first-step, length-map_first,
--               drop-map_first, take-map_first, map_first-same; getD-any; what holds of each: all-set, all-get, all-map_first, all-map, all-imp, all-take, all-replicate
--     Runs      steps in two parts: after-parts, given-parts
--     Stores    steps that give a cell each, stored as they come: Wrote, wrote-none, wrote-one, wrote-more, front-one, length-cells; held-one, sets-front
--     Parts     a part of a block that is lent and filled: part-length, part-sets, wrote-all
--     F32       float tests as facts about numbers: or-le, nor-lt, le-or, or-ge, nor-gt; cut quotients: cut-ge, cut-lt;
--               literals: zero-is, one-is
--     Rounding  what rounding gives: nonNeg, not-below-zero, round-non_neg, round-up, round-down; a float is what its own fraction rounds to: own
pub mod Bools
pub mod Signed
pub mod Held
pub mod Wrap
pub mod Durations
pub mod Made
pub mod Finite
pub mod Lists
pub mod Runs
pub mod Stores
pub mod Parts
pub mod F32
pub mod Rounding
