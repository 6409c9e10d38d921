pub mod Writing
pub mod Digits
pub mod Numerals
mod Filling
pub mod Outcomes
