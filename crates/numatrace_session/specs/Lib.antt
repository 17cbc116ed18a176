pub mod Replies
pub mod Ends
pub mod Input
