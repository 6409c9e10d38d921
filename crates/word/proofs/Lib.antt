pub mod Signed
pub mod Biased
pub mod Bound
pub mod Cells
pub mod Wraps
pub mod Exact
pub mod Outcomes
