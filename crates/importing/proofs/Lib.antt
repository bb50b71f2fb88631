-- The laws of the import reply.
pub mod Offsets
