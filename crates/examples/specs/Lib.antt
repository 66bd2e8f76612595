pub mod Hour
pub mod Shared
pub mod Settled
