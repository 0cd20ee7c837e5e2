pub mod WordLaws
pub mod Fours
pub mod Lessening
pub mod Draining
pub mod Confining
pub mod Stepping
