pub mod Read
pub mod Answered
pub mod Former
