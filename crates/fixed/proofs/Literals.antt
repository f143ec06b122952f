-- What a literal of the code and one of a definition unfold to, under names that the code's attributes can write.
pub use lib.Ieee.{of_bits, round, neg}
