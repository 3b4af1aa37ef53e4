pub mod Number
pub mod Weights
pub mod Rooms
pub mod Ways
pub mod Tallying
