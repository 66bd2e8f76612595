pub mod Hours
pub mod Reading
pub mod Writing
