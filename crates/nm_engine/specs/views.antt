-- What contracts see the values of the code as.
pub mod Early
pub mod Flights
pub mod RunState
pub mod Parts
pub mod Runs
pub mod Shown
pub mod Spaces
