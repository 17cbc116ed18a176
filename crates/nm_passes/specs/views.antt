-- What contracts see the values of the code as, and what functions return.
pub mod Errors
pub mod Listing
pub mod Runs
pub mod Turns
