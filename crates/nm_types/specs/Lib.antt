pub mod Names
pub mod Nodes
pub mod Masks
pub mod Layout
pub mod Refusal
pub mod Map
pub mod State
pub mod Does
