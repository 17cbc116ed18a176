mod Handles
mod LowBits
mod RawBoxes
