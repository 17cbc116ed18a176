-- Worked examples.
pub mod ThreePages
pub mod Flights
