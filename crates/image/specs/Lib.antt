pub mod Covering
pub mod Narrowing
