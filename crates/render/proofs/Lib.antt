-- What the proofs here share.
--     Holding    bytes held back, a line's cells behind them, and when a header is given: the ruleset headers
mod Holding
