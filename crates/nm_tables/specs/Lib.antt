pub mod definitions
pub mod views
pub mod laws
pub mod examples
