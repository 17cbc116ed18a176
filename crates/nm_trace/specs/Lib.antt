pub mod definitions
pub mod laws
pub mod examples
