-- What the loops over lists do.
pub mod Places
pub mod Tables
pub mod Marks
pub mod Keys
pub mod Decides
