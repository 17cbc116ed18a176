pub mod Mappers
pub mod Borrowed
pub mod Examples
