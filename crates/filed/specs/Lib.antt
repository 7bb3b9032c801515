pub mod Checks
pub mod Filed
pub mod Files
pub mod Records
