pub mod Behind
pub mod Lines
pub mod Telling
