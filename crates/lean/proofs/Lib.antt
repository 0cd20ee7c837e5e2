pub mod LengthLaws
pub mod PlaceLaws
pub mod LeanLaws
pub mod LeanSame
pub mod LeanOf
