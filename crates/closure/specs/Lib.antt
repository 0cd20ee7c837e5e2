pub mod Given
pub mod Closed
