pub mod HandedOn
pub mod Pins
pub mod Touches
