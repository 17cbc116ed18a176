mod Searched
mod Chosen
mod Closed
mod Short
