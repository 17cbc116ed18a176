pub mod Replied
pub mod Lines
pub mod Early
pub mod Served
