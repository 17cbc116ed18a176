pub mod Job
pub mod Stores
pub mod Zeros
