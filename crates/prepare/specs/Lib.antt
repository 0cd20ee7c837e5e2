pub mod Prepared
pub mod Places
pub mod Width
