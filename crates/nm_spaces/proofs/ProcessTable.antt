pub mod Changes
pub mod NamedFrames
pub mod Places
