-- What a reader of this crate must believe: blank places from a place on, and a place or none.
pub mod Slots
