pub mod Pool
pub mod Compile
pub mod Answer
pub mod Inside
