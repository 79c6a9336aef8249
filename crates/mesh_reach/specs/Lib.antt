-- What is reached over the rings of edges, and how the search for it goes.
pub mod Reached
pub mod Searching
