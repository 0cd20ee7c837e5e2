pub mod NextLaws
pub mod EachLaws
pub mod UntilLaws
pub mod StrongLaws
