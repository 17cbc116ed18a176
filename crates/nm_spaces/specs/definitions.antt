-- What the contracts of address spaces say beside the model.
pub mod Moves
pub mod Tied
