-- Laws for the proofs of the functions.
pub mod Stretches
pub mod Sayings
pub mod Walks
pub mod Verdicts
