pub mod Tickets
pub mod Rule
pub mod Steps
pub mod Shown
pub mod Stages
