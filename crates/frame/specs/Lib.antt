pub mod Framed
pub mod SetUp
pub mod Sheets
