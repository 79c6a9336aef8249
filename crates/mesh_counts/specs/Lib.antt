-- What counting edges over their rings is lent, and what it comes to.
pub mod Counts
