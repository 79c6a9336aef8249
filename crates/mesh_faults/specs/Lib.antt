-- The faults and their places, and what the searches for them are lent and do.
pub mod Faults
pub mod Twins
pub mod Looks
