pub mod Shifted
pub mod Parts
