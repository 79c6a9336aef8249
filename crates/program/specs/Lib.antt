-- What the parts of the program's answer are lent and do.
pub mod Answering
