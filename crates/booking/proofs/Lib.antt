pub mod Tails
pub mod BookLaws
