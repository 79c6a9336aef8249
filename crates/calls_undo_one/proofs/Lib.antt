-- Laws for the proofs of the functions, and for undo several's.
pub mod Housed
pub mod UndoneMesh
