pub mod ReadLaws
pub mod Listed
pub mod Spelling
pub mod Storing
pub mod Spelt
pub mod Folding
pub mod TextLaws
pub mod OnlyLines
