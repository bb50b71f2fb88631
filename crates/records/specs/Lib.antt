-- What a reader of this crate must believe: the bytes of a device and of its interfaces.
pub mod Records
