-- What the least role and the role asked are lent, and what they come to.
pub mod Least
pub mod Choices
