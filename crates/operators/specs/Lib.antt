pub mod Operators
pub mod Modes
