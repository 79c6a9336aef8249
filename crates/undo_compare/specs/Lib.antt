-- What comparing triangles is lent and does.
pub mod Compared
