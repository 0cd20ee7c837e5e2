pub mod PrintPut
pub mod LineText
pub mod WriteLaws
pub mod PrintBytes
pub mod SameLaws
pub mod CleanSame
