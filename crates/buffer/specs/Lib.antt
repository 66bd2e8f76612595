pub mod Writes
pub mod Appends
