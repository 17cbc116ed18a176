-- What holds of all parts in order.
pub mod Orders
pub mod Cells
