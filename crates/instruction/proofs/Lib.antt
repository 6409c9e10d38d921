pub mod Forms
pub mod Outcomes
