-- Told    a refusal and its number say the same; a valid answer: answered; what is told is one thing: value-is, not-refused
pub mod Told
