pub mod Apart
pub mod Growing
pub mod Held
pub mod Listings
pub mod Written
