pub mod Members
pub mod Grown
pub mod ModeLists
