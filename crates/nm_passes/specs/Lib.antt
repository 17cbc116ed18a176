pub mod definitions
pub mod views
pub mod laws
