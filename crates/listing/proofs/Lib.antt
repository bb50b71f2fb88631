-- The laws of the list reply.
pub mod Lists
pub mod Offsets
pub mod Whole
