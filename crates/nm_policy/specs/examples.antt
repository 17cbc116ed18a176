-- Worked examples.
pub mod Zones
pub mod Pairs
pub mod Turns
