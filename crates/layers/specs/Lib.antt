pub mod Differences
pub mod Layers
pub mod Peaks
