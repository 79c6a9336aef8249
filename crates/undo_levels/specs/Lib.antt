-- What several levels are lent, and what they come to.
pub mod Levels
