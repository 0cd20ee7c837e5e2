pub mod LayerWords
pub mod WordNumbers
pub mod Writing
pub mod Layering
pub mod Layers
