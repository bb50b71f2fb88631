-- What a reader of this crate must believe: the limits and numbers of 01.
pub mod Limits
