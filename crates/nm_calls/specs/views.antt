-- What contracts see the values of the code as, and what private functions return.
pub mod Answers
pub mod Ends
pub mod Tally
