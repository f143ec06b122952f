-- Laws that callers of these functions cite, and what the proofs here share.
pub mod Laws
pub mod Answers
pub mod Literals
