-- Laws for the proofs of the functions, and that the promise determines the result.
pub mod Texts
pub mod Printed
pub mod Rooms
pub mod Undone
pub mod Read
pub mod Determined
