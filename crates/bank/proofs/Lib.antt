-- Laws that callers cite are in Laws and Found.
--     Laws     which banks are set, the checks in front, a payload's part: new-valid, lent-same, lent_holds, whole-within,
--              whole-part, whole-length, whole-at-end, refused-part
--     Found    what the search finds: found-entry, found-none, found-bad, found-known, found-absent; found-distinct and found-rising, by which
--              each entry is found by its id; found-lent
--     Payloads which end of a payload is wrong: fails-offset, fails-length, gives-way, gave-way; payload-value, which both boxes share
--     Steps    how one place decides the search, and the two loops a turn at a time: the rulesets halving_steps, scanning_steps
pub mod Laws
pub mod Payloads
pub mod Steps
pub mod Found
