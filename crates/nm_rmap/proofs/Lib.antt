pub mod Carried
pub mod Counting
pub mod Pinned
pub mod Places
pub mod Lone
