-- The laws of descriptors: one after the other, and read again.
pub mod Laws
pub mod Again
