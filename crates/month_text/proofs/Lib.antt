pub mod Halves
pub mod Whole
