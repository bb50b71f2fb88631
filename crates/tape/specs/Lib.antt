-- What a reader of this crate must believe: the records of a tape, and the table of the session that it is replayed on.
pub mod Layout
pub mod Tape
pub mod Table
