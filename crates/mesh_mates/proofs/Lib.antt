-- Laws for the proofs of the functions, and for whoever calls them.
pub mod Facts
pub mod Mates
