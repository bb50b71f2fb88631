-- The exchanges, computed.
pub mod Known
