pub mod Index
pub mod Lines
pub mod Coverage
pub mod Rests
pub mod Splits
