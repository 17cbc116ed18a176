pub mod Collected
pub mod Far
pub mod Nearest
pub mod Paired
pub mod Sorted
pub mod Turned
