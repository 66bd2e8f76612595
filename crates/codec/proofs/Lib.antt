pub mod Trips
pub mod Spelled
pub mod Pairs
pub mod Both
