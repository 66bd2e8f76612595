pub mod Months
pub mod Hours
pub mod Sums
