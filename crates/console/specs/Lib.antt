-- What a reader of this crate must believe: what a refilled window holds.
pub mod Windows
