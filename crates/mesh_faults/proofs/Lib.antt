-- Laws for the proofs of the functions.
pub mod Twins
pub mod Search
pub mod Tables
