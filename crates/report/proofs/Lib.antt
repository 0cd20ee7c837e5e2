pub mod HandedLaws
pub mod ReportLaws
pub mod TextLaws
pub mod WriteLaws
pub mod CleanedLaws
