pub mod Groups
pub mod Longs
pub mod Table
pub mod Texts
