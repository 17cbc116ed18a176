pub mod AfterCopy
pub mod Boxed
pub mod Copies
pub mod FreeLists
pub mod InMemory
pub mod Shelves
