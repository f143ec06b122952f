pub mod Fixed
pub mod Decibels
pub mod Answers
