pub mod Stretches
pub mod Pools
pub mod Fronts
