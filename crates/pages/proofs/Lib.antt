pub mod RowLaws
pub mod PageLaws
