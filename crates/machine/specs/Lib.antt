pub mod Step
pub mod Run
pub mod Entry
pub mod Faults
pub mod Single
pub mod Inside
