-- Laws for the proofs of the functions.
pub mod Takes
pub mod Triangles
pub mod Verdicts
