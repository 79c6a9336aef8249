-- What a reader must believe, in the order of document 01; `Index` is document 02's #101. Nothing here says how the
-- library computes.
pub mod Limits
pub mod Mesh
pub mod Counting
pub mod Splitting
pub mod Reading
pub mod Choice
pub mod Refusals
pub mod Calls
pub mod Frames
pub mod Program
pub mod Index
pub mod Demands
