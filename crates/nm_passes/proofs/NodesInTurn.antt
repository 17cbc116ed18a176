pub mod FullNodes
pub mod PagesLeft
pub mod Passes
