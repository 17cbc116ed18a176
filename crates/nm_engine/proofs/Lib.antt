pub mod Between
pub mod Does
pub mod Early
pub mod InFlight
pub mod MidRun
pub mod Runs
pub mod Shown
pub mod Undo
