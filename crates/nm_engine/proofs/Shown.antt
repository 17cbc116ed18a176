pub mod BothParts
pub mod FrameChanges
pub mod FreeFrames
pub mod Moves
pub mod PagedFrames
pub mod PopulatedFrames
pub mod Reads
