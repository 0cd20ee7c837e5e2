pub mod KindLaws
pub mod NodeLaws
pub mod SignLaws
pub mod CloseLaws
pub mod GivenLaws
