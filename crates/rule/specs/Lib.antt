pub mod Tree
pub mod Kind
pub mod Table
pub mod Check
pub mod Marks
pub mod Answer
pub mod Layout
pub mod Row
