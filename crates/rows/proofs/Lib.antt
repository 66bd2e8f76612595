pub mod Firsts
pub mod Named
pub mod Ranges
pub mod Rows
pub mod Tables
