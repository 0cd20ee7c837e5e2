pub mod NeedLaws
pub mod FieldLaws
pub mod BlockSteps
pub mod OwnNeeds
pub mod ListingLaws
