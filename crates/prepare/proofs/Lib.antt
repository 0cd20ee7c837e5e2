pub mod NameCount
pub mod AuPlace
pub mod Bridge
pub mod PlaceLaws
pub mod PlaceBridge
pub mod WidthLaws
pub mod FormerLaws
