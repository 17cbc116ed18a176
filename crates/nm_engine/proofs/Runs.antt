pub mod ByEvents
pub mod OneByOne
