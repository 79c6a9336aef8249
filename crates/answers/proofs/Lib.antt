-- Laws for the proofs of the functions, and for whoever calls them.
pub mod Places
pub mod Counted
pub mod Arms
