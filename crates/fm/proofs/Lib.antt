-- What callers and the proofs cite.
--     Requests    many requests: fm-active; an active oscillator gives samples alone (fm-heard, fm-run, fm-after), another none
--                 (fm-silent, fm-run-none, fm-stays); what a block stores
pub mod Requests
