pub mod HeldEntries
pub mod ReplacedEntries
