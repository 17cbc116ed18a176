-- Which pages move, in which runs, and who may move them.
pub mod Batch
pub mod Listing
pub mod Moves
pub mod Passes
pub mod Permission
pub mod Placement
