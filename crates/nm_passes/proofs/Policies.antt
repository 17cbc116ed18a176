pub mod Moves
pub mod NamedNodes
pub mod Nodes
pub mod SentPages
pub mod StrayPages
pub mod Turns
