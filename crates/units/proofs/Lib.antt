pub mod Positive
pub mod Products
pub mod Rounds
