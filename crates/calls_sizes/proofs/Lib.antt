-- Laws for the functions, and for whoever calls them.
pub mod Shortest
pub mod Sizes
