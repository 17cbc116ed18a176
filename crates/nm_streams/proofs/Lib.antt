pub mod Known
pub mod Taken
pub mod Waits
