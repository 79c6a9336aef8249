-- The refusals' numbers and places, and the judgement by rows of the table of refusals.
pub mod Judged
pub mod Numbers
