pub mod Interleavings
pub mod Laws
pub mod InFlight
pub mod Moves
pub mod Phases
