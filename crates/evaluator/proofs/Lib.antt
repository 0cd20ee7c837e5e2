pub mod OperatorLaws
pub mod SatLaws
pub mod RowLaws
pub mod RowMeaning
