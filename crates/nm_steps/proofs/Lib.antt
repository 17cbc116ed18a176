pub mod Each
pub mod Utf8
pub mod Least
pub mod Turns
pub mod Trees
pub mod Shorts
pub mod Memory
