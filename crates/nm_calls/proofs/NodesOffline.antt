pub mod AnyNodesOnline
pub mod Results
