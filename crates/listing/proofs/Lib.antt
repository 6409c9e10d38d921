pub mod Writing
pub mod Operands
pub mod Lines
pub mod Bounds
pub mod Answers
pub mod Marks
pub mod Outcomes
