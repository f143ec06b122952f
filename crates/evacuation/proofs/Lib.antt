-- What is proved of the evacuation pattern.
--     Tenths    a length within one tenth of its nominal one is one from nine to eleven tenths: within-yes, within_low, within-high, within-told
--     Cycles    the pattern's laws: the list's rule (phase-rule), each phase's samples (lasts, in-phase) within its tenth (phase-within), the
--               cycle repeats (repeats, repeats-often); runs of samples: run-parts, run-cell, run_length, cycle-run; places in the
--               cycle: stands-sounds, stands-next, stands_after, run-stored
--     Runs      a list's runs of equal bytes, and the phases cycle after cycle
--     Passes    one pass over a recording is the definition over its runs: goes-runs, reads, Hears
--     Accepted  the reader accepts whole cycles of phases within their tenths (accepts), nothing else (accepted; empty-no, above-no), and all
--               that the pattern emits of them (accepts-own)
--     Examples  the pattern at 20 samples a second, computed
pub mod Tenths
pub mod Cycles
pub mod Runs
pub mod Passes
pub mod Accepted
pub mod Examples
