pub mod WordLaws
pub mod KindLaws
pub mod DeclareLaws
pub mod HeadLaws
pub mod FormerLaws
pub mod Spellings
pub mod Entries
