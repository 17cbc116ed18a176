-- Worked examples.
pub mod Entries
