-- Worked examples.
pub mod Calling
pub mod DuringRows
pub mod MbindRows
pub mod MigrateRows
pub mod OfflineRows
