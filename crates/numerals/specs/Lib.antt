-- What a reader of this crate must believe: numbers as text, a line, and how much text there is room for.
pub mod Digits
pub mod Texts
