pub mod DecimalLaws
pub mod Examples
pub mod LineLaws
