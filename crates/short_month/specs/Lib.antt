pub mod TwoHours
