-- Parts in order, and the entries of all of them.
pub mod Tree
pub mod Parts
pub mod Lists
pub mod Nodes
