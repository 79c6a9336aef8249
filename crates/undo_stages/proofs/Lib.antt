-- Laws for the proofs of the functions.
pub mod Numbers
pub mod Mapped
