pub mod Runs
pub mod Points
pub mod Whole
pub mod Verdicts
