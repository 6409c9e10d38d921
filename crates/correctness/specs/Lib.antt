pub mod Meaning
pub mod Demand3
pub mod Halting
pub mod Choice
