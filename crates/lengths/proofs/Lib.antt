-- Laws of lengths with what is left over.
--     Laws    no drift: no-drift; samples and remainder make the whole: parted-whole, parted-rest; at an allowed rate a call gives a
--             length: carrying-given; a list's total is what its lengths give in turn: total-in-turn; what a list's total gains with each length
pub mod Laws
