pub mod Shown
pub mod ShownRows
pub mod LimitRows
pub mod Targets
pub use Rattle.nm_types.specs.Map
pub use Rattle.nm_types.specs.Layout
pub use Rattle.nm_types.specs.State
pub mod Stretches
