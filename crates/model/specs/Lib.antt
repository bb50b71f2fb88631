-- What a reader of this crate must believe: what a session is and does, and the claims about every run of it.
pub mod State
pub mod Answers
pub mod Judging
pub mod Machine
pub mod Acts
pub mod Cut
pub mod Book
pub mod Claims
pub mod Corollaries
pub mod Stale
pub mod Times
