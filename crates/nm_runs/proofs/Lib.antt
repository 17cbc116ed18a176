pub mod Cuts
pub mod Pieces
pub mod Stretches
pub mod Pages
pub mod Joined
