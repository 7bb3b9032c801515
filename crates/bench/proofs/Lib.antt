pub mod Answering
pub mod Changing
pub mod Fitting
pub mod Freshness
