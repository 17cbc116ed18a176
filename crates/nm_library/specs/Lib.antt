pub mod Calls
pub mod Entries
pub mod Held
pub mod Rooms
pub mod Statuses
