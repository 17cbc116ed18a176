pub mod AreaLookups
pub mod ListedPages
pub mod Looks
pub mod PinnedPages
pub mod Walks
