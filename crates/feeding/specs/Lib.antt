-- What a reader of this crate must believe: what a piece asks, the plan of a feed, and that carried out it is the definition.
pub mod Asking
pub mod Planning
pub mod Feeding
