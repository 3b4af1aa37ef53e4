pub mod Decimal
pub mod Lines
pub mod Writing
pub mod Building
