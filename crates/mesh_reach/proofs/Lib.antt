-- Laws of what is reached, and of the search for it.
pub mod Joins
pub mod Rounds
pub mod Queues
pub mod Spreading
