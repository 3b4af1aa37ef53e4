pub mod Asking
pub mod Working
