pub mod Values
pub mod Rows
