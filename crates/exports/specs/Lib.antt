-- What a reader of this crate must believe: the devices of a table, and the rules of one device and of two.
pub mod Devices
pub mod Rules
