pub mod Noted
pub mod Touches
