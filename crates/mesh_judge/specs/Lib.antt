-- What the judgement of a mesh is lent and does.
pub mod Judging
