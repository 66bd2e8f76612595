pub mod Counted
pub mod Sheets
