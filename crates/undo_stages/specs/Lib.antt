-- What the stages of a role are lent and do.
pub mod Role
pub mod Maps
