pub mod areas
pub mod looks
