pub mod NumberLaws
pub mod SpellLaws
pub mod ReadLaws
pub mod Examples
pub mod MemberPrints
