pub use Rattle.nm_types.specs.Map
pub use Rattle.nm_types.specs.Layout
pub use Rattle.nm_types.specs.State
pub mod definitions
pub mod views
