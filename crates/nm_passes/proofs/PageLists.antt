pub mod Ascending
pub mod FirstPages
pub mod SeenPages
