-- What a reader of this crate must believe: the plans of a completion and of a close, and that carried out they are the definitions.
pub mod Settling
