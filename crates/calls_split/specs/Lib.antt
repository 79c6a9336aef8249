-- What split is lent and does, but for the clearing of its work buffers.
pub mod Splitting
