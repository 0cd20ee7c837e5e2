pub mod Families
pub mod Tabled
pub mod Matches
pub mod Sheets
