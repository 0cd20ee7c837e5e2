pub mod Places
pub mod Leaned
