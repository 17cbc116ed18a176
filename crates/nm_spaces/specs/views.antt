-- What contracts see the values of the code as.
pub mod ProcessTable
pub mod AddressSpaces
pub mod Held
