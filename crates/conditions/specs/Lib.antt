pub mod Entries
pub mod Conditions
pub mod Putting
