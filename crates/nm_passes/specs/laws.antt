-- What holds of all passes.
pub mod Full
