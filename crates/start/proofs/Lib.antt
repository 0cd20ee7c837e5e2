pub mod StartWords
pub mod NamedNumbers
pub mod Halves
pub mod Starting
pub mod StartLaws
