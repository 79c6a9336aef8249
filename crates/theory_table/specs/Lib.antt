-- Document 01's starred meshes.
pub mod Table
