-- Which nodes pages come from and go to, and in which order.
pub mod Zones
pub mod Pairs
pub mod Turns
