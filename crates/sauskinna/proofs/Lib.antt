pub mod Single
pub mod Outcomes
pub mod Told
