-- What holds of all traces and sessions.
pub mod Soundness
pub mod Sessions
