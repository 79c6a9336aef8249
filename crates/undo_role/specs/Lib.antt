-- The buffers of an undo, what a role is lent, and what trying it comes to.
pub mod Buffers
pub mod Tried
