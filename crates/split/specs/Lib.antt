-- What numbering the edge vertices and writing the splitting are lent and do.
pub mod Numbers
pub mod Fours
