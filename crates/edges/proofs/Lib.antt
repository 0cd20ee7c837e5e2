pub mod NodeLaws
pub mod EdgeLaws
