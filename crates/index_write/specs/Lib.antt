-- What the writers of faces are lent.
pub mod Writing
