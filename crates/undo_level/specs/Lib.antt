-- What one level is lent, and what it comes to.
pub mod Level
