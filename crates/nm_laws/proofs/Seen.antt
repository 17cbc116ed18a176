pub mod Frames
pub mod Ranges
pub mod Rewritten
pub mod Shown
pub mod Sights
pub mod Written
