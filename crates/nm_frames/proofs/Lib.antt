pub mod Stores
pub mod Zeros
