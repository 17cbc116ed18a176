pub mod NoneTwice
pub mod Pagemaps
pub mod Pairs
pub mod RequestsDiffer
