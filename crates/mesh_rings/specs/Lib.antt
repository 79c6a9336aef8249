-- What the tables of half-edges and the rings of edges hold, and what the loops that make them are lent and do.
pub mod Tables
pub mod Ring
pub mod Chains
pub mod Making
