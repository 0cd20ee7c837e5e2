pub mod Later
pub mod Pages
