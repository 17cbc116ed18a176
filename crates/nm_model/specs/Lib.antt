pub mod definitions
pub mod examples
pub mod views
