pub mod Early
pub mod InFlight
pub mod OneByOne
pub mod Seen
pub mod Soundness
pub mod Lists
