pub mod Handed
pub mod Prints
pub mod Text
pub mod Cleaned
pub mod Jobs
