pub mod Late
pub mod NoBytes
pub mod Nodes
pub mod Results
