pub mod Accesses
pub mod Batches
pub mod Looks
pub mod NodesInTurn
pub mod PageLists
pub mod Policies
pub mod Trails
