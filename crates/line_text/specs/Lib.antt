pub mod Lines
pub mod Money
