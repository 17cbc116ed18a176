pub mod Finished
pub mod Refilled
