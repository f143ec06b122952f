-- What the proofs here share.
--     Shown    what a call tells and leaves of a part of a blank buffer, as it is printed
mod Shown
