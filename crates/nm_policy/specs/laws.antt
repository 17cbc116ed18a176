-- What holds of all orders, pairs and turns.
pub mod Zones
pub mod Pairs
pub mod Turns
