-- What an engine cites, and how it is got.
--     Places     what stands at a place of a list: at-length, and after a store: set-same, set-other
--     Falling    insertion into falling order; falling-order: the same numbers, each at least as high as all after it
--     Ranks      the ranks of those of a list that pass a test, in falling order, whatever the list's order
--     Step       what one voice leaves that is stored where an allocation may store it
--     Demand     demand 3 for every box whose allocation is lawful: demand
--     Rule       document 01's rule is lawful: lowest-allowed
--     Scans      the rule as loops compute it: free-scan, lowest-scan, with a loop's turns and its end
--     Ranked     the rule as one search, by a rank for each voice: ranked-free, ranked-lowest, lowest-mapped
--     Oldest     document 02's rule is lawful: oldest-allowed; one search finds it: ranked-oldest; where all are of one age it is document 01's: oldest-first
pub mod Places
pub mod Falling
pub mod Ranks
pub mod Step
pub mod Demand
pub mod Rule
pub mod Scans
pub mod Ranked
pub mod Oldest
