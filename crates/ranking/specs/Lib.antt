-- A list of play requests to a box of voices, from document 01, "Voices and the rule for handing them out", and demand 3.
--     Falling    falling order
--     Box        what is asked of voices and requests, and what a list of requests leaves: Box, priorities, asks, handed, after_all, last_got
--     Demand     the laws of an allocation, Lawful, and demand 3 as a claim about a box, Demand
--     Rule       document 01's rule as a choice: first_free, first_lowest, lowest_priority, free_only
pub mod Falling
pub mod Box
pub mod Demand
pub mod Rule
