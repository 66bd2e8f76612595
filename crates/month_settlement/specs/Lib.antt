pub mod Books
pub mod Running
pub mod Errors
