pub mod Boxed
pub mod Held
pub mod Moves
pub mod ProcessTable
pub mod Spaces
pub mod Tied
