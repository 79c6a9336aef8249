-- Laws for the proofs of the functions, and from the tables of an undo to theory's `Built` and `Found`.
pub mod Rooms
pub mod Begins
pub mod Coarse
pub mod CoarseEdges
pub mod Lent
pub mod Sound
pub mod Complete
pub mod Stages
pub mod Tries
