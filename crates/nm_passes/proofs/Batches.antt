pub mod Progress
pub mod Requests
pub mod Results
pub mod StatusCounts
