-- What contracts see the values of the code as.
pub mod Marks
pub mod Leaves
pub mod Branches
pub mod Index
pub mod Blocks
