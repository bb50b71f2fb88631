-- What a reader of this crate must believe: the look-up of a device.
pub mod Lookup
