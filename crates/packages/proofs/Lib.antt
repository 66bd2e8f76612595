pub mod Counted
pub mod First
pub mod Nexts
pub mod Rowing
pub mod Rooms
