-- What the covering mesh holds, and where a role starts.
pub mod Tiles
pub mod Starts
pub mod Cover
