-- What the readers are lent and do, and what their answers say, in theory's words.
pub mod Parts
pub mod Given
pub mod Judging
