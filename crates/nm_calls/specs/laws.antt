-- What holds of all calls.
pub mod Calls
pub mod Migrations
