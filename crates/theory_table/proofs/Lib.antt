-- That every row of the tables holds: the tests, bottom up, and the claim.
pub mod Equal
pub mod RefusalTests
pub mod ChoiceTests
pub mod SplitTests
pub mod UndoTests
pub mod FrameTests
pub mod IndexTests
pub mod Table
pub mod Examples
