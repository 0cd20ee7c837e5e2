pub mod Refusal
pub mod Sheet
pub mod Reading
pub mod ReadAs
pub mod Symbols
