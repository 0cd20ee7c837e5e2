pub mod SpellingLaws
pub mod EntryLaws
