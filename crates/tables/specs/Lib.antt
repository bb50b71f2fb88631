-- What a reader of this crate must believe: the rules of a table.
pub mod Tables
