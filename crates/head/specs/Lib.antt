pub mod Head
pub mod Former
