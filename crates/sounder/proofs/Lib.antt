-- What callers cite.
--     Valid     each definition keeps a state valid, and what a step of the parts promises, it promises of the box
--     Settled   a stop and a bank leave what settling leaves; a fade that is refused before its entry start changes nothing, one of the second call
--               nothing wherever it is refused: on-refused
--     Requests  demand 3; an accepted request changes at most the rank of a voice that it does not get: ranks-alone
--     Steps     each of document 01's calls does to a fade what document 01's does: fade-takes, fade-on-takes, fade-lasts; what a buffer call and a list of requests are: frame-run, play-run
--     Sounding  after the end of a fade of the second call the sound goes on: sounds-on
--     Heard     which voices the calls that start one leave audible
pub mod Valid
pub mod Settled
pub mod Requests
pub mod Steps
pub mod Sounding
pub mod Heard
