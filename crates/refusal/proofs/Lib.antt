pub mod Scans
pub mod Laid
pub mod Outcomes
