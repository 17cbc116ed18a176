pub mod Accesses
pub mod CallLaws
pub mod Lines
pub mod NodesOffline
pub mod Outcomes
pub mod PageLists
pub mod Policies
pub mod Trails
