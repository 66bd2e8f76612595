pub mod Stated
pub mod Printed
