-- Laws for the proofs of the functions, and for whoever calls them.
pub mod Tables
pub mod Sides
pub mod Chains
pub mod Following
pub mod Joining
pub mod EdgeRings
pub mod Facts
