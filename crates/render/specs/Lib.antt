-- What the program promises of itself; what it reads and writes no contract can say.
--     Files    the sound file as it is kept, and times in it
--     Runs     what is read of a run
pub mod Files
pub mod Runs
