pub mod Lines
pub mod Hour
pub mod Figures
pub mod Calls
pub mod Posting
pub mod Ledger
pub mod Runs
