pub mod Addresses
pub mod ConsecutiveNodes
pub mod Tallies
