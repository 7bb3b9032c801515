pub mod Added
pub mod Boxes
pub mod Covering
pub mod Listed
pub mod Picking
pub mod Sides
