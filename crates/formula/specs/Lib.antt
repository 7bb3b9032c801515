pub mod Assembly
pub mod Conversions
pub mod Formulas
pub mod Orders
pub mod Parts
pub mod Trees
