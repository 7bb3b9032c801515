pub mod Comparisons
pub mod Complete
pub mod Derived
pub mod Labels
pub mod Signs
pub mod Steps
pub mod Truth
