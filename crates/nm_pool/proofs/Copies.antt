pub mod Copied
pub mod Home
pub mod Populated
