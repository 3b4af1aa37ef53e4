pub mod Input
pub mod Printing
pub mod Ending
pub mod Verbs
pub mod Checks
pub mod Same
pub mod Weighing
