pub mod Decoded
pub mod Instruction
