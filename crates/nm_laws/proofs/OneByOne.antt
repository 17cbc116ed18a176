pub mod Looks
pub mod Memory
pub mod Placed
pub mod Planned
