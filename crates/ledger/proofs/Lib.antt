pub mod Sums
pub mod Passed
pub mod Closable
pub mod Owners
pub mod Places
pub mod Steps
pub mod Runs
