-- What the contracts of the engine say beside the model.
pub mod Does
pub mod Undo
pub mod Orders
