pub mod Cases
pub mod Maps
pub mod Keys
pub mod Members
pub mod Layouts
pub mod Lowest
pub mod Together
