pub mod Amounts
pub mod Calls
