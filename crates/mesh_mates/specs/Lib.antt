-- What the table of other half-edges holds.
pub mod Others
