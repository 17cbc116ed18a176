-- What the calls of a system do: which are refused, what the others answer, and the system after them.
pub mod Answers
pub mod Does
pub mod Entries
pub mod Maps
pub mod Mbind
pub mod Memory
pub mod Migrate
pub mod Offline
pub mod Outcome
pub mod Systems
