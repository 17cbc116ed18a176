-- What contracts see the values of the code as.
pub mod Copies
pub mod Frames
pub mod Accesses
pub mod Populated
