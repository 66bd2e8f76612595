pub mod Letters
pub mod Named
pub mod Ranges
pub mod Firsts
pub mod Plain
pub mod Week
