-- The promises' words for the code's answers, and what an undo takes and counts on the way to them.
pub mod Answers
pub mod Counts
pub mod Taken
pub mod Levels
pub mod Said
