pub mod Printed
pub mod Tally
pub mod Report
pub mod Answers
pub mod Steps
pub mod Turns
pub mod Remaining
pub mod Listing
