pub mod Outcomes
pub mod Demands
pub mod Former
