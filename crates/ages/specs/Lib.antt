-- What a reader of this crate must believe: the age of a URB, and which are stale.
pub mod Ages
