pub mod Coding
pub mod TakingOff
pub mod Unmasked
