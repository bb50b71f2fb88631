-- What a reader of this crate must believe: how the code's answers and plans stand for those of the definitions.
pub mod Answers
pub mod Plans
