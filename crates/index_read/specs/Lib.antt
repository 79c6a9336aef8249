-- What the readers of runs and faces are lent and do, and what their answers say, in theory's words.
pub mod Bytes
pub mod Runs
pub mod Faces
