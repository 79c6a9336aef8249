-- Laws for the proofs of the functions, and for whoever calls them.
pub mod Lists
pub mod Places
pub mod Stores
pub mod Tables
pub mod Marks
pub mod Keys
pub mod Decides
