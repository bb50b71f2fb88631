-- The laws of a reply's bytes.
pub mod Laws
