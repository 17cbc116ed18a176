pub mod Freed
pub mod Fronts
pub mod Returned
