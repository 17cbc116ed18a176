pub mod Tickets
pub mod Naming
pub mod Sizes
