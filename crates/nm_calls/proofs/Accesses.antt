pub mod ByPlace
pub mod EachAnswered
