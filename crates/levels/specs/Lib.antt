pub mod Choosing
pub mod Giving
pub mod Testing
