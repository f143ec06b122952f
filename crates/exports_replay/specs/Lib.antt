-- What a whole script is answered, from the replay format.
--     Lines    a script's bytes as lines
--     Cuts     where a line ends
--     Runs     what the lines tell, one after another; what a buffer holds of it
pub mod Lines
pub mod Cuts
pub mod Runs
