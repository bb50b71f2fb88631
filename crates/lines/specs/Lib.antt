-- What a reader of this crate must believe: the lines that `replay` prints.
pub mod Lines
