pub mod Grammar
pub mod Canonical
pub mod Former
