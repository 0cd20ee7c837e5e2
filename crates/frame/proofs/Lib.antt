pub mod CopyLaws
pub mod FrameLaws
pub mod VerdictLaws
pub mod SetUpLaws
pub mod Stores
