pub mod Covers
pub mod Deciding
pub mod Growing
pub mod Picked
