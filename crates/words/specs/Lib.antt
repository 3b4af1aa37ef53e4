pub mod Word
pub mod Sum
pub mod Parity
pub mod Span
pub mod Ends
pub mod Choice
pub mod Letters
pub mod Reversed
