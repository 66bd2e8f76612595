pub mod Ran
pub mod Turns
pub mod Ends
pub mod Fronts
