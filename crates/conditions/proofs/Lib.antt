pub mod EntryLaws
pub mod RuleWords
pub mod RuleLaws
pub mod Sides
pub mod Siding
pub mod LinkLaws
