-- What a reader of this crate must believe: what an act prints, what a record of a tape does to a session, and what it prints.
pub mod Prints
pub mod Play
pub mod Played
