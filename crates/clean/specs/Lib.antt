pub mod Clean
pub mod Same
pub mod Written
