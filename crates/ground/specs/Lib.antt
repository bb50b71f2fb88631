-- What a reader of this crate must believe: what is written to a buffer, what is said of a list, and how an ordered table decides.
pub mod Writing
pub mod Lists
pub mod Tests
pub mod Rows
