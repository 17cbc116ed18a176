pub mod Counts
pub mod Watched
pub mod Reporting
pub mod Waiting
