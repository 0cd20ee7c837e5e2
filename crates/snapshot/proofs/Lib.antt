pub mod EntryLaws
pub mod CountLaws
pub mod AnsweredLaws
pub mod FormerLaws
