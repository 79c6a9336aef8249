-- What reading standard input is held to.
pub mod Reading
