pub mod AreaChanges
pub mod Beginnings
pub mod ClearedEntries
pub mod CountedProcesses
pub mod PinChanges
pub mod RemovedRange
pub mod Touches
pub mod UndoneTouches
