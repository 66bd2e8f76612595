pub mod Explained
pub mod Sheet
