-- What selecting and claiming triangles are lent and do.
pub mod Runs
pub mod Selected
pub mod Claims
