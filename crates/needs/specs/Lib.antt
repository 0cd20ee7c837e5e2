pub mod NeedWords
pub mod Needs
pub mod FieldBlocks
pub mod Listing
