pub mod Beside
pub mod Sessions
pub mod InParts
pub mod FromBytes
pub mod Headlines
pub mod Lines
pub mod Told
