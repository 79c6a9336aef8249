-- What the writers are lent and do.
pub mod Putting
