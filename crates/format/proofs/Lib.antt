pub mod Taking
pub mod Canon
pub mod Back
pub mod Ways
