pub mod Found
pub mod Closed
pub use Rattle.nm_types.specs.Map
