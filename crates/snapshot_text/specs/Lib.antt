pub mod Store
pub mod Lines
pub mod Text
