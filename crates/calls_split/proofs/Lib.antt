-- Laws for the proof of the function.
pub mod SplitMesh
