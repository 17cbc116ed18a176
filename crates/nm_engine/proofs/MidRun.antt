pub mod AreaCalls
pub mod AreaChanges
pub mod Counted
pub mod LostFrames
pub mod RunPages
pub mod Sites
