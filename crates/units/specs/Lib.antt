pub mod Parts
pub mod Rounding
