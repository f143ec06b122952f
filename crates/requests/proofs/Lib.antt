-- What callers cite.
--     One        one play request: nothing but voices changes: rest-one
--     Demand3    demand 3 holds of every lawful box: demand-3, sound-accepted; document 01's rule is lawful: by-rule
--     Along      what a list of requests does to one box, it does to another that follows it: demand-along, all-along, each-along
--     Presents   the state of the present rules is a lawful box: lawful; a request keeps it valid: valid-played
--     Playing    the loop over a list of requests
--     Beside     what that loop keeps of the marks
pub mod One
pub mod Demand3
pub mod Along
pub mod Presents
pub mod Playing
pub mod Beside
